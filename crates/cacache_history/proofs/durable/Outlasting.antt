-- What durable commits stored outlasts each later loss of power.
use Rattle.std.proofs.Common.{rules, ◌≡◌, ◌⊎◌, inl, inr, ℕ, true, List, [], ◌∷◌, ◌++◌, Option, None, Some, Ok, length, refl, sym, ap, subst, ◌∙◌, append_assoc}
use Rattle.sha1.specs.Sha1.{sha1}
use Rattle.cacache_core.specs.{declared.integrity.digest.Hash.{Hash}, Integrity.{IsHash}, Paths.{Names, names_of, bucket_names_of, content_names, folders_to, joined}}
use Rattle.cacache_store.specs.declared.store.step.Step.TheVariants as steps
use Rattle.cacache_store.specs.declared.store.answer.Answer.TheVariants as answers
use Rattle.cacache_disk.specs.Tree.{Tree}
use Rattle.cacache_calls.specs.{declared.{command.{Command.{Command}, Insert.{Insert}, Put.{Put}}, reply.Reply.{Reply, TheVariants.{Stored}}, carried.Commit.{Commit}}, Inserting.{insertion}, Runs.{Moves}, Steps.{bucket_path, content_folders, content_path}, Storing.{insertion_of, put_commit}}
use Rattle.cacache_calls.specs.declared.command.Command.TheVariants as commands
use Rattle.cacache_value.specs.Value.{blob_in, value_of_tree}
use Rattle.cacache_history.specs.{declared.record.Record.{Record}, AddedEntries.{address_of_put}, History.{History, IsLegal, Made, now_at}, Setup.{home}, durable.{QuietMoves.{EndsFrom, CallEndsWith, FewCalls, AreQuiet}, Outlasting.{AnsweredPut, DurableInsert, EntriesHaveBehind, FindsThere, FoundLink, HistoriesOutlive, InsertsHaveBehind, InsertsOutlast, KeyOutlasts, PutsHaveBehind, PutsOrLinksOutlast, PutsOutlast, moment_at}}}
use Rattle.cacache_history.proofs.{Contents.Digests.{digest_hash}, durable.{DoneSyncs.{QuietPlace, here, own_record, quiet_here, split}, BehindEntries.{entry_behind}, CommitMoves.{HasDirs}, PutMoves.{Adds, secures}, CommitPlaces.{Secures, insert_appends, insert_formed, line_is, own, place_in, put_formed, put_secures, written_fits}, DurableContents.{content_named, found_left, put_outlasts}, DurableEntries.{WholeEntry, bucket_named, entry_outlasts, whole_append}, SyncedTemps.{put_well_at}, Traces.{losses_leave_caches}}}
use Rattle.cacache_loss.{specs.{Loss.{Loss}, LossLaws.{GoodNode, HasDigest}, LostValues.{HoldsContent, LeftOf}, Moments.{lost_then}}, proofs.LostTrees.{contents_are_held}}

module _ (h : History) (legal : IsLegal h) (folder : Names) (home_is : home h.setup ≡ Some folder) where
  -- a move of a call, after a place; from there on all others are quiet
  quiet_place : (before rest : List Record) (is : h.records ≡ before ++ rest) (path : Names) → AreQuiet h.setup path (now_at h before) rest
      → (i : List Hash) (command : Command) (ends : EndsFrom h before rest command (Stored i)) (front : Moves) (made : Made) (more : Moves)
      → own h legal before rest is i command ends ≡ front ++ made ∷ more → QuietPlace h folder path before rest ends.caller made more
  quiet_place before rest is path quiet i command ends front made more e = record {
    legal = legal;
    home_is = home_is;
    is = is;
    quiet = quiet;
    reply = Stored i;
    call = ends.call;
    place = place_in h legal before rest is i command ends front made more e;
  }

  -- ---- a put

  module _ (p : Put) (put : AnsweredPut h folder p) where
    abbrev a : Hash
    a = address_of_put p

    abbrev commit : Commit
    commit = put_commit h.setup.cache p

    abbrev path : Names
    path = folder ++ content_names a

    is_hash : IsHash a
    is_hash = digest_hash p.options.algorithm p.data

    text_is : content_path commit.cache commit.computed ≡ joined h.setup.cache (content_names a)
    unfolding content_path
    text_is = refl

    folders_are : content_folders commit.cache commit.computed ≡ folders_to h.setup.cache (content_names a)
    unfolding content_folders
    folders_are = refl

    text_named : names_of (content_path commit.cache commit.computed) ≡ Ok path
    text_named = ap names_of text_is ∙ content_named h folder a is_hash home_is

    abbrev moves : Moves
    moves = own h legal put.before put.rest put.is put.reply (commands.Put p) put.call

    found : Secures put.reply commit moves
    found = put_secures h legal put.before put.rest put.is put.reply p put.durable path put.call text_named

    after_found : HasDirs (content_folders commit.cache commit.computed) found.more × Adds put.reply commit p.key found.more
    after_found = secures put.reply commit put.durable found.more found.runs

    content_place : QuietPlace h folder path put.before put.rest put.call.caller found.made found.more
    content_place = quiet_place put.before put.rest put.is path put.quiet put.reply (commands.Put p) put.call found.front found.made found.more found.is

    -- the entry of its key
    adds_whole : (key : List ℕ) → p.key ≡ Some key → Adds put.reply commit (Some key) found.more
        → WholeEntry h folder path put.before put.rest put.call.caller (insertion_of commit key).entry
    adds_whole key e adds =
        let formed = put_formed h legal put.before put.rest put.is put.reply p put.durable path put.call text_named key e adds.written in
        record {
          more = adds.more;
          at = quiet_place put.before put.rest put.is path put.quiet put.reply (commands.Put p) put.call (found.front ++ found.made ∷ adds.front) (whole_append h.setup.cache (insertion_of commit key).entry) adds.more
              (found.is
              ∙ ap (λ more. found.front ++ found.made ∷ more)
              (adds.is ∙ ap (λ line. adds.front ++ (steps.Append (bucket_path h.setup.cache key) line, answers.Took (length line)) ∷ adds.more) (line_is (insertion_of commit key) put.durable))
              ∙ sym (append_assoc found.front (found.made ∷ adds.front) (whole_append h.setup.cache (insertion_of commit key).entry ∷ adds.more)));
          formed = formed;
          fits = written_fits (insertion_of commit key) formed adds.written;
          file = adds.file;
          dirs = adds.dirs;
        }

    put_whole : (key : List ℕ) → p.key ≡ Some key → WholeEntry h folder path put.before put.rest put.call.caller (insertion_of commit key).entry
    put_whole key e = adds_whole key e (subst (λ key. Adds put.reply commit key found.more) e after_found.1)

    module _ (loss : Loss) (left : Tree) (left_of : LeftOf folder (moment_at h h.records) loss left) where
      -- it outlasts the loss
      key_left : (key : Option (List ℕ)) → p.key ≡ key → KeyOutlasts h put.before put.rest put.call.caller p key (value_of_tree (Some folder) left)
      key_left None e = tt
      key_left (Some key) e = entry_outlasts (insertion_of commit key).entry (put_whole key e) loss left left_of

      held : GoodNode (HasDigest a) (lost_then (Some folder) (moment_at h h.records) loss path) → HoldsContent a (value_of_tree (Some folder) left)
      held = contents_are_held folder a (moment_at h h.records) loss left left_of

      -- the content, or the link that the put found
      content_left : FewCalls h → HoldsContent a (value_of_tree (Some folder) left) ⊎ FoundLink h put.before put.rest put.call.caller a (value_of_tree (Some folder) left)
      content_left few =
          let q = content_place in
          let puts = put_well_at h legal few (here q) (own_record q ∷ q.place.later) (split q) folder home_is a is_hash (quiet_here q) in
          let dirs = subst (λ folders. HasDirs folders found.more) folders_are after_found.0 in
          elim found.puts [
            | inl f ↦ inl (held (put_outlasts a is_hash q puts dirs loss f.0 (f.1 ∙ ap (λ text. (steps.Persist f.0 text, answers.Done)) text_is)))
            | inr e ↦
                let synced = e ∙ ap (λ text. (steps.SyncFile text, answers.Done)) text_is in
                let finds : FindsThere put.call.caller (joined h.setup.cache (content_names a)) put.rest
                = record { between = q.place.between; sync = own_record q; later = q.place.later; is = q.place.is; is_sync = (refl, synced) } in
                elim (found_left a is_hash q puts dirs loss synced) [
                  | inl good ↦ inl (held good)
                  | inr link ↦ inr (finds, record { target = link.0; was = link.1; is = ap blob_in (left_of path ∙ link.2) })
                ]
          ]

  -- ---- an insertion

  module _ (n : Insert) (before rest : List Record) (is : h.records ≡ before ++ rest) (durable : n.options.durable ≡ true) (quiet : AreQuiet h.setup [] (now_at h before) rest)
      (i : List Hash) (ends : EndsFrom h before rest (commands.Insert n) (Stored i)) where
    insert_whole : WholeEntry h folder [] before rest ends.caller (insertion h.setup.cache n).entry
    insert_whole =
        let adds = insert_appends h legal before rest is i n durable (folder ++ bucket_names_of (sha1 n.key)) ends (bucket_named n.key h folder home_is) in
        let formed = insert_formed h legal before rest is i n durable (folder ++ bucket_names_of (sha1 n.key)) ends adds.written in
        record {
          more = adds.more;
          at = quiet_place before rest is [] quiet i (commands.Insert n) ends adds.front (whole_append h.setup.cache (insertion h.setup.cache n).entry) adds.more
              (adds.is ∙ ap (λ line. adds.front ++ (steps.Append (bucket_path h.setup.cache n.key) line, answers.Took (length line)) ∷ adds.more) (line_is (insertion h.setup.cache n) durable));
          formed = formed;
          fits = written_fits (insertion h.setup.cache n) formed adds.written;
          file = adds.file;
          dirs = adds.dirs;
        }

-- ---- the laws

-- a call that ends with a reply, by that reply's own words
abbrev by_reply : (h : History) (before rest : List Record) (command : Command) (reply other : Reply) → reply ≡ other → EndsFrom h before rest command reply → EndsFrom h before rest command other
by_reply h before rest command reply other same ends = record {
  caller = ends.caller;
  call = ends.call;
  is = ends.is;
  command_is = ends.command_is;
  nothing = ends.nothing;
  ends = subst (λ reply. CallEndsWith ends.caller reply rest) same ends.ends;
}

-- the entry of a durable insertion
inserted_whole : (h : History) → IsLegal h → (folder : Names) → home h.setup ≡ Some folder → (n : Insert) (put : DurableInsert h n)
    → WholeEntry h folder [] put.before put.rest put.call.caller (insertion h.setup.cache n).entry
inserted_whole h legal folder home_is n put =
    insert_whole h legal folder home_is n put.before put.rest put.is put.durable put.quiet put.stored.0
    (by_reply h put.before put.rest (commands.Insert n) put.reply (Stored put.stored.0) put.stored.1 put.call)

pub puts_or_links_outlast : (h : History) → IsLegal h → FewCalls h → PutsOrLinksOutlast h
puts_or_links_outlast h legal few folder p loss left home_is put left_of = search (rules, content_left, key_left)

pub entries_have_behind : (h : History) → IsLegal h → EntriesHaveBehind h
entries_have_behind h legal folder p key loss left home_is put keyed left_of =
    entry_behind (insertion_of (put_commit h.setup.cache p) key).entry (put_whole h legal folder home_is p put key keyed) loss left left_of

-- it finds no link, so its content is left
puts_outlast : (h : History) → IsLegal h → FewCalls h → PutsOutlast h
puts_outlast h legal few folder p loss left home_is put left_of =
    let both = puts_or_links_outlast h legal few folder p loss left home_is put.answered left_of in (
      elim both.0 [
        | inl content ↦ content
        | inr link ↦ absurd (put.no_link link.0 link.1.target link.1.was)
      ],
      both.1,
    )

inserts_outlast : (h : History) → IsLegal h → InsertsOutlast h
inserts_outlast h legal folder n loss left home_is put left_of =
    entry_outlasts (insertion h.setup.cache n).entry (inserted_whole h legal folder home_is n put) loss left left_of

puts_have_behind : (h : History) → IsLegal h → PutsHaveBehind h
puts_have_behind h legal folder p key loss left home_is put = entries_have_behind h legal folder p key loss left home_is put.answered

inserts_have_behind : (h : History) → IsLegal h → InsertsHaveBehind h
inserts_have_behind h legal folder n loss left home_is put left_of =
    entry_behind (insertion h.setup.cache n).entry (inserted_whole h legal folder home_is n put) loss left left_of

pub histories_outlive : HistoriesOutlive
histories_outlive h legal = search (rules, losses_leave_caches, puts_outlast, inserts_outlast, puts_have_behind, inserts_have_behind)
