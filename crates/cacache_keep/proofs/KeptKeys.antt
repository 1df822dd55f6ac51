-- What the moves that drop a key leave of other keys, on a store that stands.
use Rattle.std.proofs.{Common.{◌≡◌, inl, inr, ℕ, List, [], ◌∷◌, ◌++◌, Bool, true, false, Option, None, Some, Result, Ok, Err, map, refl, sym, ap, subst, ◌∙◌}, lemmas.Slice.Eq.{bytes_eq-Decides}}
use Rattle.std.specs.{Prelude.{◌&&◌, bytes_eq, not}, List.{list_any}}
use Rattle.sha1.specs.Sha1.{sha1}
use Rattle.cacache_core.specs.{declared.{errors.{Error.{Error, TheVariants.{IoError, OutOfMemory}}, Fault.{Fault}}, integrity.{algorithm.Algorithm.TheVariants.{Sha256}, digest.Hash.{Hash}}}, Errors.{fault_in}, Integrity.{IsHash, integrity_under}, Paths.{Names, home_of, names_of, names_below, bucket_names_of}}
use Rattle.cacache_core.proofs.PathLemmas.{keys_have_digests}
use Rattle.cacache_store.specs.declared.store.answer.Answer.TheVariants as answers
use Rattle.cacache_store.specs.{declared.store.log.LogItem.{LogItem, TheVariants.{Made}}, Plain.{PlainAnswer}}
use Rattle.cacache_store.specs.declared.store.step.Step.TheVariants as steps
use Rattle.cacache_disk.{specs.{declared.luck.Luck.TheVariants.{Plain}, Apply.{apply}, Tree.{Rooted, Tree}, Replay.{IsLog, tree_of}}, proofs.KeptFolders.{steps_keep_rooted}}
use Rattle.cacache_entry.specs.Bucket.{entries_of, Found, latest}
use Rattle.cacache_calls.specs.{declared.reply.Reply.{Reply}, Runs.{Gains, Moves, Ran, plain_reply, without_message}, SingleSteps.{Does, FailsAt}, State.{Site}, Steps.{bucket_path}, Table.{opening}}
use Rattle.cacache_calls.specs.declared.command.Command.TheVariants as commands
use Rattle.cacache_calls.specs.declared.reply.Reply.TheVariants as replies
use Rattle.cacache_value.specs.{Acts.{Drop, act_at, act_of, change, list_of}, Placed.{Placed}, Shows.{ShowsBucket}, Value.{Value, value_of_tree, wide_value}}
use Rattle.cacache_value.proofs.{Shows.{trees_show}, Traces.{steps_act, steps_keep_placed}}
use Rattle.cacache_history.{specs.Commits.{deeds_of_act}, proofs.{Contents.Digests.{own_integrity}, Histories.ShownTurns.{bucket_below}}}
use Rattle.cacache_laws.specs.{Caches.{Called, HasKey, setup_at}, Beside.{found_under}, ReadAnswers.{entries_on}, Sequence.{after_deeds}, Standing.{IsStanding}, trees.{Compacting.{Line, decided, decision, lines_of}, Contents.{bucket_in, content_in}, Verifying.{found_in}}}
use Rattle.cacache_laws.proofs.{Calls.{InParts.{logs_lead}, CallErrors.{plain_error}}, Readings.{OpenReaders.{log_front}, ReadAnswers.{reading_keeps}}, Removing.Removed.{bucket_gone, cut_buckets, removed_at, uncut_contents}, trees.{Compactions.{CompactAnswers.{found_as, latest_is, undecided, ours}, CompactLines.{pieces_are}, CompactTwice.{in_bytes}}, HiddenKeys.{tombstones_hide}, Logged.{gains_join}, Spared.{SparedCalls.{call_left, stands}, SparedKeys.{tombstones_fit}}, Twins.Twice.{address_is}}}
use Rattle.cacache_sync.specs.Lookups.{delete_of}
use Rattle.cacache_keep.specs.{Confirming.{is_led}, Parting.{DropsKey, Entombs, StopsUnlinkingKey, TriesKey, UnlinksKey, has_other, is_other, leads_alone, may_be_full, unless_memory}, Repairing.{tombstone}, Rewriting.{StopsSecuring, SyncsFolder, folder_of}}
use Rattle.cacache_keep.proofs.{Collections.{Behind.{found_same, lies_same}, Optional.{Tidies, looks, nothing, removal_failed, sync_failed, synced}}, Stopped.{gained}}

-- ---- logs

abbrev pub longer : List LogItem → Moves → List LogItem
longer log moves = log ++ map (λ m. Made m.0 m.1) moves

pub front_logged : (log new : List LogItem) (moves : Moves) → Gains (Some log) (Some new) moves → IsLog new → IsLog log
front_logged log new moves gains logged =
    let is : new ≡ longer log moves = cc in
    log_front log new (map (λ m. Made m.0 m.1) moves) is logged

-- ---- lines

-- a lookup of another key finds nothing in bytes that have lines of this key alone
undecided_by : (key other : List ℕ) (ls : List Line) → (other ≡ key → ⊥) → list_any (is_other key) ls ≡ false → list_any (bytes_eq other) (decided ls) ≡ false
undecided_by key other [] differ none = refl
undecided_by key other ((text, None) ∷ ls) differ none = absurd cc
undecided_by key other ((text, Some d) ∷ ls) differ none =
    decides (bytes_eq d.0 key) refl (bytes_eq other d.0) refl (λ rest. undecided_by key other ls differ rest)
  where
    decides : (own : Bool) → bytes_eq d.0 key ≡ own → (same : Bool) → bytes_eq other d.0 ≡ same → (list_any (is_other key) ls ≡ false → list_any (bytes_eq other) (decided ls) ≡ false)
        → list_any (bytes_eq other) (decided ((text, Some d) ∷ ls)) ≡ false
    decides false is same so rest =
        let no : list_any (is_other key) ((text, Some d) ∷ ls) ≡ true = rw is refl in
        let wrong : true ≡ false = sym no ∙ none in absurd cc
    decides true is true so rest = absurd (differ ((bytes_eq-Decides other d.0).0 so ∙ (bytes_eq-Decides d.0 key).0 is))
    decides true is false so rest =
        let others : list_any (is_other key) ls ≡ false = rw is at none in
        rw so (rest others)

others_nowhere : (key other x : List ℕ) → (other ≡ key → ⊥) → has_other key x ≡ false → latest other (entries_of x) ≡ None
others_nowhere key other x differ none =
    latest_is other x ∙ ap found_as (in_bytes decision ours other x ∙ undecided other (lines_of x) None (pieces_are x) (undecided_by key other (lines_of x) differ none))

module _ (site : Site) (home : Names) (is : home_of site.cache ≡ Some home) where
  -- everything stands where it may still; all keys but these lead to the entries that they led to, and to the bytes
  pub record StaysBut (But : List ℕ → Type 0) (old new : List LogItem) : Type 0 where
    pub standing : IsStanding site.cache new
    pub finds : (key : List ℕ) → (But key → ⊥) → found_under site.cache key new ≡ found_under site.cache key old
    pub has : (key bytes : List ℕ) (i : List Hash) → (But key → ⊥) → HasKey site.cache key i bytes old → HasKey site.cache key i bytes new

  -- the log gained moves that leave it so
  pub record KeepsBut (But : List ℕ → Type 0) (old new : Option (List LogItem)) : Type 0 where
    pub moves : Moves
    pub gains : Gains old new moves
    pub stays : (a b : List LogItem) → old ≡ Some a → new ≡ Some b → IsLog b → IsStanding site.cache a → StaysBut But a b

  -- the log that was reached
  pub reached : (But : List ℕ → Type 0) (a : List LogItem) (old new : Option (List LogItem)) → old ≡ Some a → (k : KeepsBut But old new) → new ≡ Some (longer a k.moves)
  reached But a old new from k = subst (λ (l : Option (List LogItem)). Gains l new k.moves) from k.gains

  pub then_but : (But : List ℕ → Type 0) (old mid new : Option (List LogItem)) → KeepsBut But old mid → KeepsBut But mid new → KeepsBut But old new
  then_but But old mid new one two = record {
    moves = one.moves ++ two.moves;
    gains = gains_join old mid new one.moves two.moves one.gains two.gains;
    stays = λ a b from to logged standing.
        let y = longer a one.moves in
        let here = reached But a old mid from one in
        let gains = subst (λ (l : Option (List LogItem)). Gains l (Some b) two.moves) here (subst (λ (l : Option (List LogItem)). Gains mid l two.moves) to two.gains) in
        let first = one.stays a y from here (front_logged y b two.moves gains logged) standing in
        let last = two.stays y b here to logged first.standing in
        record {
          standing = last.standing;
          finds = λ key other. last.finds key other ∙ first.finds key other;
          has = λ key bytes i other h. last.has key bytes i other (first.has key bytes i other h);
        };
  }

  pub wider : (But Wide : List ℕ → Type 0) (old new : Option (List LogItem)) → ((key : List ℕ) → But key → Wide key) → KeepsBut But old new → KeepsBut Wide old new
  wider But Wide old new more k = record {
    moves = k.moves;
    gains = k.gains;
    stays = λ a b from to logged standing.
        let s = k.stays a b from to logged standing in
        record { standing = s.standing; finds = λ key other. s.finds key (λ but. other (more key but)); has = λ key bytes i other. s.has key bytes i (λ but. other (more key but)) };
  }

  -- where the tree's buckets and contents are the same
  same_key : (a b : List LogItem) (key bytes : List ℕ) (i : List Hash) → bucket_in home (tree_of b) (sha1 key) ≡ bucket_in home (tree_of a) (sha1 key) → ((h : Hash) → IsHash h → content_in home (tree_of b) h ≡ content_in home (tree_of a) h)
      → HasKey site.cache key i bytes a → HasKey site.cache key i bytes b
  same_key a b key bytes i bucket contents has =
      let at = address_is i has.content.formed in
      record {
        found = has.found;
        finds = found_same site home a b is key bucket ∙ has.finds;
        integrity = has.integrity;
        content = record { content = lies_same site home a b is i at.0 at.2 (contents at.0 at.1) ∙ has.content.content; formed = has.content.formed; meets = has.content.meets };
      }

  -- moves that leave all contents and buckets
  pub tidies_but : (But : List ℕ → Type 0) (old new : Option (List LogItem)) → Tidies site.cache home is [] old new → KeepsBut But old new
  tidies_but But old new t = record {
    moves = t.moves;
    gains = t.gains;
    stays = λ a b from to logged standing.
        let lead = logs_lead a b t.moves (subst (λ (l : Option (List LogItem)). Gains l (Some b) t.moves) from (subst (λ (l : Option (List LogItem)). Gains old l t.moves) to t.gains)) logged in
        let left = t.spares (λ h m. absurd m) (tree_of a) (subst (λ f. Placed f (tree_of a)) is standing.placed) standing.rooted lead.0 in
        let buckets = λ (key : List ℕ). ap (λ x. bucket_in home x (sha1 key)) lead.1 ∙ left.buckets (sha1 key) (keys_have_digests key) in
        let contents = λ (h : Hash) (hash : IsHash h). ap (λ x. content_in home x h) lead.1 ∙ left.contents h hash (λ m. absurd m) in
        record {
          standing = record { placed = subst (λ f. Placed f (tree_of b)) (sym is) (subst (Placed (Some home)) (sym lead.1) left.placed); rooted = subst Rooted (sym lead.1) left.rooted };
          finds = λ key other. found_same site home a b is key (buckets key);
          has = λ key bytes i other. same_key a b key bytes i (buckets key) contents;
        };
  }

  pub same_but : (But : List ℕ → Type 0) (old new : Option (List LogItem)) → new ≡ old → KeepsBut But old new
  same_but But old new same = tidies_but But old new (nothing site.cache home is [] old new same)

  -- ---- the key of an entry

  module _ (entry : Found) where
    abbrev pub Own : List ℕ → Type 0
    Own key = key ≡ entry.key

    -- the call of its tombstone, whatever it was answered
    entombed : (reply : Reply) (old new : Option (List LogItem)) → plain_reply reply ≡ reply → Entombs site entry reply old new → KeepsBut Own old new
    entombed reply old new plain (moment, utf8, early, ran) = record {
      moves = ran.0;
      gains = ran.2;
      stays = λ a b from to logged standing.
          let d = delete_of entry.key moment in
          let called : Called site.cache (commands.Delete (delete_of entry.key moment)) reply a b
          = record {
            base = site.base;
            number = site.number;
            ran = subst (λ (l : Option (List LogItem)). Ran (opening site (tombstone entry.key moment).0) reply l (Some b)) from (subst (λ (l : Option (List LogItem)). Ran (opening site (tombstone entry.key moment).0) reply old l) to ran);
            plain = plain;
            logged = logged;
          } in
          let may = tombstones_fit site.cache (delete_of entry.key moment) utf8 early in
          let any = integrity_under Sha256 [] in
          let own = λ (key : List ℕ) (other : Own key → ⊥) (same : entry.key ≡ key). other (sym same) in
          record {
            standing = stands site.cache (commands.Delete d) reply a b standing called may;
            finds = λ key other. (call_left site.cache key any (own_integrity Sha256 []) reply a b standing (commands.Delete d) called may (own key other) tt).finds;
            has = λ key bytes i other h. elim ((call_left site.cache key i h.content.formed reply a b standing (commands.Delete d) called may (own key other) tt).leads bytes h) [ inl k ↦ k | inr text ↦ absurd (let no : None ≡ Some text.0 = text.1 in cc) ];
          };
    }

    -- its bucket was read, which has lines of the key alone
    module _ (bytes : List ℕ) (alone : has_other entry.key bytes ≡ false) where
      abbrev path : List ℕ
      path = bucket_path site.cache entry.key

      -- what the removal of the bucket makes of the value
      cut_value : (t : Tree) → Placed (Some home) t → answers.Done ≡ (apply t (steps.RemoveFile (bucket_path site.cache entry.key)) Plain).0
          → wide_value (Some home) (apply t (steps.RemoveFile (bucket_path site.cache entry.key)) Plain).1 ≡ after_deeds (home_of site.cache) (removed_at (bucket_path site.cache entry.key)) (wide_value (Some home) t)
      cut_value t placed done =
          let acted = steps_act (Some home) t (steps.RemoveFile path) Plain placed tt in
          subst (λ a. wide_value (Some home) (apply t (steps.RemoveFile path) Plain).1 ≡ change (Some home) (act_of (steps.RemoveFile path) Plain a) (wide_value (Some home) t)) (sym done) acted
          ∙ by (names_of path) (wide_value (Some home) t) ∙ ap (λ f. after_deeds f (removed_at path) (wide_value (Some home) t)) (sym is)
        where
          by : (r : Result Names Fault) (v : Value) → change (Some home) (act_at r Drop) v ≡ after_deeds (Some home) (deeds_of_act (act_at r Drop)) v
          by (Ok names) v = refl
          by (Err fault) v = refl

      below : names_of path ≡ names_below (home_of site.cache) (bucket_names_of (sha1 entry.key))
      below = bucket_below (setup_at site.cache []) entry.key

      -- what the answer to the reading says
      held : (t : Tree) → Placed (home_of site.cache) t → Rooted t → answers.Bytes bytes ≡ (apply t (steps.ReadAll (bucket_path site.cache entry.key)) Plain).0
          → (value_of_tree (home_of site.cache) t).buckets (sha1 entry.key) ≡ Some (entries_of bytes)
      held t placed rooted answered =
          let shows = trees_show (home_of site.cache) t placed rooted in
          subst (ShowsBucket ((value_of_tree (home_of site.cache) t).buckets (sha1 entry.key))) (sym answered) (shows.bucket (sha1 entry.key) path Plain below)

      -- another key of the same bucket leads to nothing
      nowhere : (a : List LogItem) (key : List ℕ) → (value_of_tree (home_of site.cache) (tree_of a)).buckets (sha1 entry.key) ≡ Some (entries_of bytes) → (Own key → ⊥) → sha1 key ≡ sha1 entry.key → found_under site.cache key a ≡ None
      nowhere a key has other same =
          ap (λ d. latest key (list_of ((value_of_tree (home_of site.cache) (tree_of a)).buckets d))) same ∙ ap (λ o. latest key (list_of o)) has ∙ others_nowhere entry.key key bytes other alone

      -- the reading, and the removal
      record Cut (a b : List LogItem) : Type 0 where
        stays : StaysBut Own a b
        gone : found_under site.cache entry.key b ≡ None

      cuts : (a b : List LogItem) → Gains (Some a) (Some b) ((steps.ReadAll path, answers.Bytes bytes) ∷ (steps.RemoveFile path, answers.Done) ∷ []) → IsLog b → IsStanding site.cache a → Cut a b
      cuts a b gains logged standing =
          let t = tree_of a in
          let moves : Moves = (steps.ReadAll path, answers.Bytes bytes) ∷ (steps.RemoveFile path, answers.Done) ∷ [] in
          let lead = logs_lead a b moves gains logged in
          let read = reading_keeps t path in
          let has = held t standing.placed standing.rooted lead.0.0 in
          let placed = subst (λ f. Placed f (tree_of a)) is standing.placed in
          let done : answers.Done ≡ (apply (tree_of a) (steps.RemoveFile (bucket_path site.cache entry.key)) Plain).0 = lead.0.1.0 ∙ ap (λ x. (apply x (steps.RemoveFile path) Plain).0) read in
          let after : tree_of b ≡ (apply (tree_of a) (steps.RemoveFile (bucket_path site.cache entry.key)) Plain).1 = lead.1 ∙ ap (λ x. (apply x (steps.RemoveFile path) Plain).1) read in
          let v = wide_value (Some home) t in
          let value : wide_value (Some home) (tree_of b) ≡ after_deeds (home_of site.cache) (removed_at (bucket_path site.cache entry.key)) (wide_value (Some home) (tree_of a)) = ap (wide_value (Some home)) after ∙ cut_value t placed done in
          let contents = λ (h : Hash) (hash : IsHash h). ap (λ (w : Value). w.contents h) value ∙ uncut_contents site.cache path v entry.key below h in
          let bucket = λ (key : List ℕ). cut_buckets site.cache path v entry.key below key in
          let none = λ (key : List ℕ) (gone : (after_deeds (home_of site.cache) (removed_at path) v).buckets (sha1 key) ≡ None).
          ap (λ f. latest key (entries_on f (tree_of b) key)) is ∙ ap (λ (w : Value). latest key (list_of (w.buckets (sha1 key)))) value ∙ ap (λ o. latest key (list_of o)) gone in
          record {
            stays = record {
              standing = record {
                placed = subst (λ f. Placed f (tree_of b)) (sym is) (subst (Placed (Some home)) (sym after) (steps_keep_placed (Some home) t (steps.RemoveFile path) Plain placed tt));
                rooted = subst Rooted (sym after) (steps_keep_rooted t (steps.RemoveFile path) Plain standing.rooted);
              };
              finds = λ key other. elim (bucket key) [
                | inl same ↦ found_same site home a b is key (ap (λ (w : Value). w.buckets (sha1 key)) value ∙ same)
                | inr cut ↦ none key cut.1 ∙ sym (nowhere a key has other cut.0)
              ];
              has = λ key bs i other h. elim (bucket key) [
                | inl same ↦ same_key a b key bs i (ap (λ (w : Value). w.buckets (sha1 key)) value ∙ same) contents h
                | inr cut ↦ absurd (let no : None ≡ Some h.found = sym (nowhere a key has other cut.0) ∙ h.finds in cc)
              ];
            };
            gone = none entry.key (bucket_gone (home_of site.cache) path v (sha1 entry.key) below (λ no. absurd (let wrong : None ≡ Some home = sym no ∙ is in cc)));
          }

      both_moves : (old read new : Option (List LogItem)) → Does (steps.ReadAll path) (answers.Bytes bytes) old read → Does (steps.RemoveFile path) answers.Done read new
          → Gains old new ((steps.ReadAll (bucket_path site.cache entry.key), answers.Bytes bytes) ∷ (steps.RemoveFile (bucket_path site.cache entry.key), answers.Done) ∷ [])
      both_moves old read new one two = gains_join old read new ((steps.ReadAll path, answers.Bytes bytes) ∷ []) ((steps.RemoveFile path, answers.Done) ∷ []) one two

      at_logs : (old new : Option (List LogItem)) (a b : List LogItem) (moves : Moves) → old ≡ Some a → new ≡ Some b → Gains old new moves → Gains (Some a) (Some b) moves
      at_logs old new a b moves from to gains = subst (λ (l : Option (List LogItem)). Gains l (Some b) moves) from (subst (λ (l : Option (List LogItem)). Gains old l moves) to gains)

      pub cut_but : (old read new : Option (List LogItem)) → Does (steps.ReadAll (bucket_path site.cache entry.key)) (answers.Bytes bytes) old read → Does (steps.RemoveFile (bucket_path site.cache entry.key)) answers.Done read new → KeepsBut Own old new
      cut_but old read new one two =
          let moves : Moves = (steps.ReadAll path, answers.Bytes bytes) ∷ (steps.RemoveFile path, answers.Done) ∷ [] in
          record {
            moves = moves;
            gains = both_moves old read new one two;
            stays = λ a b from to logged standing. (cuts a b (at_logs old new a b moves from to (both_moves old read new one two)) logged standing).stays;
          }

      pub cut_gone : (old read new : Option (List LogItem)) (a b : List LogItem) → Does (steps.ReadAll (bucket_path site.cache entry.key)) (answers.Bytes bytes) old read → Does (steps.RemoveFile (bucket_path site.cache entry.key)) answers.Done read new
          → old ≡ Some a → new ≡ Some b → IsLog b → IsStanding site.cache a → found_under site.cache entry.key b ≡ None
      cut_gone old read new a b one two from to logged standing = (cuts a b (at_logs old new a b ((steps.ReadAll path, answers.Bytes bytes) ∷ (steps.RemoveFile path, answers.Done) ∷ []) from to (both_moves old read new one two)) logged standing).gone

    -- ---- what is tried after a tombstone that was refused

    -- a reading, or one that failed
    read_but : (But : List ℕ → Type 0) (p : List ℕ) (a : PlainAnswer) (old new : Option (List LogItem)) → Does (steps.ReadAll p) a old new → KeepsBut But old new
    read_but But p a old new does = tidies_but But old new (looks site.cache home is [] old new (gained old new ((steps.ReadAll p, a) ∷ []) does (tt, tt)))

    unread_but : (But : List ℕ → Type 0) (p : List ℕ) (e : Error) (old new : Option (List LogItem)) → FailsAt (steps.ReadAll p) e old new → KeepsBut But old new
    unread_but But p (IoError fault message) old new does = read_but But p (answers.Failed fault) old new does
    unread_but But p OutOfMemory old new (inl same) = same_but But old new same
    unread_but But p OutOfMemory old new (inr (fault, does)) = read_but But p (answers.Failed fault) old new does
    unread_but But p e old new fails = absurd fails

    -- the folder is synced, if that is to be durable
    secured_but : (But : List ℕ → Type 0) (durable : Bool) (p : List ℕ) (old new : Option (List LogItem)) → SyncsFolder durable p old new → KeepsBut But old new
    secured_but But true p old new does = tidies_but But old new (synced site.cache home is [] (steps.SyncDir (folder_of p)) answers.Done old new refl does)
    secured_but But false p old new same = same_but But old new same

    unsecured_but : (But : List ℕ → Type 0) (durable : Bool) (p : List ℕ) (e : Error) (old new : Option (List LogItem)) → StopsSecuring durable p e old new → KeepsBut But old new
    unsecured_but But true p e old new fails = tidies_but But old new (sync_failed site.cache home is [] (steps.SyncDir (folder_of p)) e old new refl fails)
    unsecured_but But false p e old new never = absurd never

    only_own : (x : List ℕ) → leads_alone entry x ≡ true → has_other entry.key x ≡ false
    only_own x alone = by (has_other entry.key x) (is_led entry (latest entry.key (entries_of x))) alone
      where
        by : (other leads : Bool) → (not other && leads) ≡ true → other ≡ false
        by true leads e = absurd cc
        by false leads e = refl

    unlinked_but : (durable gone : Bool) (old new : Option (List LogItem)) → UnlinksKey durable site.cache entry gone old new → KeepsBut Own old new
    unlinked_but durable true old new (bytes, read, does, alone, (cut, removes, secures)) =
        let whole = only_own bytes (sym alone) in
        then_but Own old cut new (cut_but bytes whole old read cut does removes) (secured_but Own durable _ cut new secures)
    unlinked_but durable false old new (bytes, read, does, alone, same) = then_but Own old read new (read_but Own _ (answers.Bytes bytes) old read does) (same_but Own read new same)

    still_linked_but : (durable : Bool) (e : Error) (old new : Option (List LogItem)) → StopsUnlinkingKey durable site.cache entry e old new → KeepsBut Own old new
    still_linked_but durable e old new (inl fails) = unread_but Own _ e old new fails
    still_linked_but durable e old new (inr (bytes, read, does, inl (memory, same))) = then_but Own old read new (read_but Own _ (answers.Bytes bytes) old read does) (same_but Own read new same)
    still_linked_but durable e old new (inr (bytes, read, does, inr (alone, inl fails))) =
        then_but Own old read new (read_but Own _ (answers.Bytes bytes) old read does) (tidies_but Own read new (removal_failed site.cache home is [] _ e read new fails))
    still_linked_but durable e old new (inr (bytes, read, does, inr (alone, inr (cut, removes, fails)))) =
        then_but Own old cut new (cut_but bytes (only_own bytes alone) old read cut does removes) (unsecured_but Own durable _ e cut new fails)

    tried_but : (full durable : Bool) (e : Error) (tried : Result Bool Error) (old new : Option (List LogItem)) → TriesKey full durable site.cache entry e tried old new → KeepsBut Own old new
    tried_but false durable e tried old new (is, same) = same_but Own old new same
    tried_but true durable e (Ok gone) old new unlinks = unlinked_but durable gone old new unlinks
    tried_but true durable e (Err x) old new stops = still_linked_but durable x old new stops

    pub dropped_but : (durable : Bool) (r : Result Bool Error) (old new : Option (List LogItem)) → DropsKey durable site entry r old new → KeepsBut Own old new
    dropped_but durable r old new (inl (so, tomb)) = entombed replies.Done old new refl tomb
    dropped_but durable r old new (inr (e, tried, refused, tomb, tries, so)) =
        then_but Own old refused new (entombed (replies.Refused (without_message e)) old refused (ap (λ (x : Error). replies.Refused x) (plain_error e)) tomb)
        (tried_but (may_be_full (fault_in e)) durable e tried refused new tries)

    -- ---- a key that is dropped leads to nothing

    tried_so : (tried : Result Bool Error) → Ok true ≡ unless_memory tried → tried ≡ Ok true
    tried_so (Ok true) so = refl
    tried_so (Ok false) so = absurd cc
    tried_so (Err OutOfMemory) so = absurd cc
    tried_so (Err e) so = absurd cc

    tried_gone : (full durable : Bool) (e : Error) (tried : Result Bool Error) (old new : Option (List LogItem)) (a b : List LogItem) → tried ≡ Ok true → TriesKey full durable site.cache entry e tried old new
        → old ≡ Some a → new ≡ Some b → IsLog b → IsStanding site.cache a → found_under site.cache entry.key b ≡ None
    tried_gone false durable e tried old new a b so (is, same) from to logged standing = absurd (let no : Ok true ≡ Err e = sym so ∙ is in cc)
    tried_gone true durable e (Ok true) old new a b so (bytes, read, does, alone, (cut, removes, secures)) from to logged standing =
        let whole = only_own bytes (sym alone) in
        let k = cut_but bytes whole old read cut does removes in
        let here = reached Own a old cut from k in
        let last = secured_but (λ (key : List ℕ). ⊥) durable _ cut new secures in
        let y = longer a k.moves in
        let y_log = front_logged y b last.moves (subst (λ (l : Option (List LogItem)). Gains l (Some b) last.moves) here (subst (λ (l : Option (List LogItem)). Gains cut l last.moves) to last.gains)) logged in
        let stands = (k.stays a y from here y_log standing).standing in
        (last.stays y b here to logged stands).finds entry.key (λ no. no) ∙ cut_gone bytes whole old read cut a y does removes from here y_log standing
    tried_gone true durable e (Ok false) old new a b so tries from to logged standing = absurd cc
    tried_gone true durable e (Err x) old new a b so tries from to logged standing = absurd cc

    pub dropped_gone : (durable : Bool) (old new : Option (List LogItem)) (a b : List LogItem) → DropsKey durable site entry (Ok true) old new → old ≡ Some a → new ≡ Some b → IsLog b → IsStanding site.cache a → found_under site.cache entry.key b ≡ None
    dropped_gone durable old new a b (inl (so, (moment, utf8, early, ran))) from to logged standing =
        let lead = logs_lead a b ran.0 (subst (λ (l : Option (List LogItem)). Gains l (Some b) ran.0) from (subst (λ (l : Option (List LogItem)). Gains old l ran.0) to ran.2)) logged in
        let may = tombstones_fit site.cache (delete_of entry.key moment) utf8 early in
        let hides = tombstones_hide site home (delete_of entry.key moment) ran.0 (tree_of a) is may ran.1 lead.0 (subst (λ f. Placed f (tree_of a)) is standing.placed) in
        ap (λ f. latest entry.key (entries_on f (tree_of b) entry.key)) is ∙ ap (λ x. found_in home x entry.key) lead.1 ∙ hides.own
    dropped_gone durable old new a b (inr (e, tried, refused, tomb, tries, so)) from to logged standing =
        let first = entombed (replies.Refused (without_message e)) old refused (ap (λ (x : Error). replies.Refused x) (plain_error e)) tomb in
        let rest = tried_but (may_be_full (fault_in e)) durable e tried refused new tries in
        let here = reached Own a old refused from first in
        let y = longer a first.moves in
        let y_log = front_logged y b rest.moves (subst (λ (l : Option (List LogItem)). Gains l (Some b) rest.moves) here (subst (λ (l : Option (List LogItem)). Gains refused l rest.moves) to rest.gains)) logged in
        let stands = (first.stays a y from here y_log standing).standing in
        tried_gone (may_be_full (fault_in e)) durable e tried refused new y b (tried_so tried so) tries here to logged stands
