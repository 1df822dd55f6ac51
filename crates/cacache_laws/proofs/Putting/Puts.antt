-- What a put leaves apart from its key and its bytes.
-- What a put and a writer's commit leave, with any options.
-- What an insertion leaves in a cache.
use Rattle.std.proofs.{lemmas.Grind.{common_steps}, Common.{rules, ◌≡◌, ◌⊎◌, inl, inr, ℕ, List, [], ◌∷◌, Option, None, Some, length, refl, sym, subst, ◌∙◌, arith, ◌++◌, option_map, ap}}
use Rattle.std.specs.Prelude.{◌^◌, ◌<◌, IsUtf8, IfSome}
use Rattle.cacache_laws.specs.{CallErrors.{IsPlainPut, FailsOnly}, Caches.{IsExcused, Called, IsCache, HasContent, HasKey, plain_put, setup_at, lies_under}, results.Handles.{LiesOrStayed}, Puts.{stored_as, LeadsToPut, ExpectsIntegrity, CommitsKeep}, OpenWriters.{IsOpened, CommitsBytes}, Beside.{KeepsOthers, found_under, FitsEntry, ShareAddress, KeepsBeside, own_integrity, PlainWritesFit}, Sequence.{Alike, after_deeds, turns_on}, Inserts.{own_hash, PutsStore, InsertsKey, InsertsLast, KeysJoin, NoneLacks}, ReadAnswers.{entries_on}}
use Rattle.cacache_laws.proofs.{Readings.{Known.{excused_by, Known, known, excuse}, Looks.{finds_last}}, Calls.CallErrors.{calls_fail_only, inserts_fail}, Putting.{Deeds.{bucket_entries, put_or_found, finds_so, lies_so, adds_keep, PutsIt, commit_leads, lies_or_found, may_lead}, Stored.{bare_written, keyed_formed, inserts_add}, OpenWriters.{Ended, ended}}}
use Rattle.cacache_calls.specs.{Promises.{own_of, Only}, declared.{command.{Command.{Command}, Delete.{Delete}, Put.{Put}, Insert.{Insert}}, reply.Reply.{Reply}}, Inserting.{deletion, refused_cause, insertion, given_or, given_text, no_integrity}, Storing.{insertion_of, put_commit}, Steps.{content_path}}
use Rattle.cacache_calls.proofs.{Telling.{integrity_utf8}, Promises.{calls_answer}}
use Rattle.cacache_history.specs.{Commits.{Deed, finds, deeds, CommitsAs, IsCase, IsNotOk, InsertionAdds}, Setup.{call_site, home}}
use Rattle.cacache_history.proofs.Contents.Digests.{digest_hash, own_integrity as own_formed}
use Rattle.cacache_core.specs.{declared.{integrity.digest.Hash.{Hash}, errors.{Error.{Error, TheVariants.{EntryNotFound, SizeMismatch, IoError, SerdeError, IntegrityError, OutOfMemory}}, SerdeCause.{SerdeCause}}}, Integrity.{Meets, integrity_under, IsIntegrity}, Paths.{home_of}, Texts.{integrity_text}}
use Rattle.cacache_core.proofs.{Meeting.{own_is_met}, Printed.{printed}}
use Rattle.cacache_store.specs.declared.store.log.LogItem.{LogItem}
use Rattle.sha1.specs.Sha1.{sha1}
use Rattle.cacache_disk.specs.Replay.{tree_of}
use Rattle.cacache_entry.specs.{FittingEntries.{IsEntry, IsUtf8IfAny}, Bucket.{Found, found_of, answer_read, answer_of}}
use Rattle.cacache_value.specs.{Acts.{PutBytes}, Value.{InFile, value_of_tree}}
use Rattle.cacache_calls.specs.declared.command.Command.TheVariants as commands
use Rattle.cacache_calls.specs.declared.reply.Reply.TheVariants as replies

-- ---- logs

-- bytes meet each integrity that has their address
met_there : (p : Put) (i : List Hash) → ShareAddress i (own_integrity p) → Meets i p.data
met_there p i same = grind (arith, common_steps)

module _ (cache : List ℕ) (p : Put) (old new : List LogItem) (ds : List Deed) (reply : Option Reply)
    (commits : CommitsAs (put_commit cache p) (λ names. PutBytes names p.data) ds reply)
    (follows : Alike (value_of_tree (home_of cache) (tree_of new)) (after_deeds (home_of cache) ds (value_of_tree (home_of cache) (tree_of old)))) where
  content_so : (i : List Hash) (bytes : List ℕ) → HasContent cache i bytes old → HasContent cache i bytes new ⊎ (ShareAddress i (own_integrity p) × HasContent cache i p.data new)
  content_so i bytes h =
      elim (lies_so cache p (InFile p.data) old new ds reply commits follows i h.formed) [
        | inl same ↦ inl (record { content = same ∙ h.content; formed = h.formed; meets = h.meets })
        | inr at ↦ inr (at.0, record { content = at.1; formed = h.formed; meets = met_there p i at.0 })
      ]

  keyed : (other bytes : List ℕ) (i : List Hash) → found_under cache other new ≡ found_under cache other old → HasKey cache other i bytes old → HasContent cache i p.data new
      → HasKey cache other i p.data new
  keyed other bytes i same h content = record { found = h.found; finds = same ∙ h.finds; integrity = h.integrity; content = content }

  pub put_keeps : KeepsBeside cache p.key (own_integrity p) p.data old new
  put_keeps = record {
    finds = finds_so cache p (InFile p.data) old new ds reply commits follows;
    lies = lies_so cache p (InFile p.data) old new ds reply commits follows;
    content = content_so;
    key = λ other bytes i differ h. elim (content_so i bytes h.content) [
      | inl stays ↦ inl (record { found = h.found; finds = finds_so cache p (InFile p.data) old new ds reply commits follows other differ ∙ h.finds; integrity = h.integrity; content = stays })
      | inr at ↦ inr (at.0, keyed other bytes i (finds_so cache p (InFile p.data) old new ds reply commits follows other differ) h at.1)
    ];
  }

-- ---- calls

module _ (cache base : List ℕ) (command : Command) (r : Reply) (old new : List LogItem) (k : Known cache base command r old new) where
  -- what it did is one of the cases of its command
  pub case_of : IsCase (call_site (setup_at cache base) k.call.number) command (turns_on (tree_of old) k.call.moves) (Some r)
  case_of = search rules

  -- the value that it left follows its deeds
  pub follows_of : Alike (value_of_tree (home_of cache) (tree_of new)) (after_deeds (home_of cache) (deeds (turns_on (tree_of old) k.call.moves)) (value_of_tree (home_of cache) (tree_of old)))
  follows_of = search rules

-- a put keeps everything except its key and its bytes, whatever it answers
pub writes_keep : (cache : List ℕ) (p : Put) (r : Reply) (old new : List LogItem) → FitsEntry cache p → IsCache cache old
    → Called cache (commands.Put p) r old new → IsCache cache new × KeepsBeside cache p.key (own_integrity p) p.data old new
writes_keep cache p r old new fits sound c =
    let k = known cache (commands.Put p) r old new c fits tt sound in (
      k.sound,
      put_keeps cache p old new (deeds (turns_on (tree_of old) k.call.moves)) (Some r) (case_of cache c.base (commands.Put p) r old new k) (follows_of cache c.base (commands.Put p) r old new k),
    )

pub plain_writes_fit : PlainWritesFit
unfolding refused_cause
plain_writes_fit a cache key bytes moment utf8 small early k e none =
    let w = bare_written key (Some (integrity_text (integrity_under a bytes))) moment (length bytes) utf8 (integrity_utf8 (integrity_under a bytes)) early small in
    keyed_formed (λ k. IsEntry (insertion_of (put_commit cache (plain_put a key bytes moment)) k).entry) key k e w.formed

-- a removal of a key keeps all other keys and all contents, whatever it answers
pub removals_keep : (cache key : List ℕ) (moment : ℕ) (r : Reply) (old new : List LogItem) → IsUtf8 key → moment < 2 ^ 64
    → IsCache cache old → Called cache (commands.Delete (record { key = key; moment = moment })) r old new → KeepsOthers cache key old new
unfolding refused_cause
removals_keep cache key moment r old new utf8 early sound c =
    let d : Delete = record { key = key; moment = moment } in
    let w = bare_written key None moment 0 utf8 tt early (omega arith) in
    let k = known cache (commands.Delete (record { key = key; moment = moment })) r old new c (λ none. w.formed) tt sound in
    adds_keep cache (deletion cache (record { key = key; moment = moment })) old new (deeds (turns_on (tree_of old) k.call.moves)) (Some r) (case_of cache c.base (commands.Delete d) r old new k)
    (follows_of cache c.base (commands.Delete d) r old new k)

-- ---- logs

-- the bytes lie there, or a content was found
pub has_or_found : (cache : List ℕ) (p : Put) (old new : List LogItem) (ds : List Deed) (reply : Option Reply) → PutsIt cache p (InFile p.data) ds reply
    → Alike (value_of_tree (home_of cache) (tree_of new)) (after_deeds (home_of cache) ds (value_of_tree (home_of cache) (tree_of old))) → (IsNotOk reply → ⊥)
    → HasContent cache (own_integrity p) p.data new
    ⊎ ((more : List Deed) × (ds ≡ finds (content_path cache (own_integrity p)) ∷ more) × (lies_under cache (own_integrity p) new ≡ lies_under cache (own_integrity p) old))
has_or_found cache p old new ds reply commits follows ok =
    elim (lies_or_found cache p (InFile p.data) old new ds reply commits follows ok) [
      | inl put ↦ inl (record { content = put; formed = own_formed p.options.algorithm p.data; meets = own_is_met p.options.algorithm p.data })
      | inr found ↦ inr found
    ]

-- a put that is done has its entry after the others, and its content
pub puts_store : PutsStore
puts_store s t call p key i command keyed reply answers =
    let ds = deeds (turns_on t call.moves) in
    let v = value_of_tree (home s) t in
    let commits : PutsIt s.cache p (InFile p.data) (deeds (turns_on t call.moves)) (Some (replies.Stored i))
    = subst (λ r. IsCase (call_site s call.number) (commands.Put p) (turns_on t call.moves) (Some r)) reply
    (subst (λ c. IsCase (call_site s call.number) c (turns_on t call.moves) (Some call.reply)) command answers.commits) in
    record {
      entries =
          answers.follows.lists (sha1 key)
          ∙ elim (bucket_entries s.cache p (InFile p.data) ds (Some (replies.Stored i)) v key keyed commits) [ inl same ↦ absurd same.1 | inr more ↦ more ];
      content =
          answers.follows.contents (own_hash p)
          ∙ elim (put_or_found s.cache p (InFile p.data) ds (Some (replies.Stored i)) v (λ no. no) commits) [
            | inl put ↦ put
            | inr found ↦ absurd (answers.puts p (content_path s.cache (own_integrity p)) found.0 command found.1)
          ];
    }

-- ---- commits

-- the same of a commit, except that what was there may have stayed if its bytes couldn't be moved
-- to their place: they, or another text with their digest, or a link
pub record HasCommitted (cache : List ℕ) (p : Put) (i : List Hash) (old new : List LogItem)
    : Type 0 where
  pub stored : i ≡ stored_as p
  pub entry : LeadsToPut cache p new
  pub content : LiesOrStayed cache (own_integrity p) p.data old new

module _ (cache : List ℕ) (p : Put) (number : ℕ) (r : Reply) (old new : List LogItem) (e : Ended cache p number r old new) where
  ended_follows : Alike (value_of_tree (home_of cache) (tree_of new)) (after_deeds (home_of cache) (deeds (turns_on (tree_of old) e.moves)) (value_of_tree (home_of cache) (tree_of old)))
  ended_follows = search rules

-- a commit that stored, with any options, with or without a key
pub commits_leave : (cache : List ℕ) (p : Put) (number : ℕ) (i : List Hash) (old new : List LogItem) → FitsEntry cache p
    → ExpectsIntegrity p → IsOpened cache number → IsCache cache old → CommitsBytes cache p number (replies.Stored i) old new
    → HasCommitted cache p i old new
commits_leave cache p number i old new fits expects o sound c =
    let e = ended cache p number fits o (replies.Stored i) old new sound c in
    let ds = deeds (turns_on (tree_of old) e.moves) in
    let follows = ended_follows cache p number (replies.Stored i) old new e in
    record {
      stored = (calls_answer (call_site (setup_at cache []) number) (commands.Put p) e.whole (replies.Stored i) e.run).0;
      entry = commit_leads cache p (InFile p.data) old new ds (Some (replies.Stored i)) e.commits follows expects (λ no. no);
      content =
          elim (has_or_found cache p old new ds (Some (replies.Stored i)) e.commits follows (λ no. no)) [
            | inl has ↦ inl has
            | inr found ↦ inr (e.found (own_hash p) found.0 (digest_hash p.options.algorithm p.data) found.1, found.2)
          ];
    }

pub commits_keep : CommitsKeep
commits_keep cache p number r old new fits expects o sound c =
    let e = ended cache p number fits o r old new sound c in
    let ds = deeds (turns_on (tree_of old) e.moves) in
    let follows = ended_follows cache p number r old new e in
    (may_lead cache p (InFile p.data) old new ds (Some r) e.commits follows expects, put_keeps cache p old new ds (Some r) e.commits follows)

-- a commit of a plain put with a key fails only for a step of its own or for memory
pub commits_fail : (cache key : List ℕ) (p : Put) (number : ℕ) (e : Error) (old new : List LogItem) → FitsEntry cache p → IsPlainPut cache key p
    → IsOpened cache number → IsCache cache old → CommitsBytes cache p number (replies.Refused e) old new → IsExcused e old new
commits_fail cache key p number error old new fits plain o sound c =
    let e = ended cache p number fits o (replies.Refused error) old new sound c in
    excused_by (own_of (commands.Put p)) old new e.moves (λ fault none. none) e.gained error e.causes
    (calls_fail_only.puts (call_site (setup_at cache []) number) key p e.whole (replies.Refused error) plain e.run)

-- ---- insertions

-- the entry that is added last is found
leads : (cache : List ℕ) (i : Insert) (old new : List LogItem) → (given : Option (List Hash)) → i.options.integrity ≡ given → IfSome given IsIntegrity
    → entries_on (home_of cache) (tree_of new) i.key ≡ entries_on (home_of cache) (tree_of old) i.key ++ (insertion cache i).entry ∷ [] → found_under cache i.key new ≡ option_map (found_of (insertion cache i).entry) given
leads cache i old new None none formed entries =
    finds_last i.key (insertion cache i).entry None (entries_on (home_of cache) (tree_of old) i.key) (entries_on (home_of cache) (tree_of new) i.key) refl (ap (λ g. answer_of (insertion cache i).entry (given_text g)) none) entries
leads cache i old new (Some j) some formed entries =
    let e = (insertion cache i).entry in
    let answer : answer_of e e.integrity ≡ Some (Some (found_of e j))
    = ap (λ g. answer_of (insertion cache i).entry (given_text g)) some ∙ ap (λ r. option_map (option_map (found_of (insertion cache i).entry)) (answer_read r)) (printed j formed) in
    finds_last i.key e (Some (found_of e j)) (entries_on (home_of cache) (tree_of old) i.key) (entries_on (home_of cache) (tree_of new) i.key) refl answer entries

module _ (cache base : List ℕ) (i : Insert) (old new : List LogItem) where
  only : (r : Reply) → Known cache base (commands.Insert i) r old new → Only (replies.Stored (given_or no_integrity i.options.integrity)) r
  only r k = calls_answer (call_site (setup_at cache base) k.call.number) (commands.Insert i) k.call.moves r k.run

  -- an error of a step or of memory, or why the entry can't be written
  failed : (e : Error) → Known cache base (commands.Insert i) (replies.Refused e) old new
      → FailsOnly (replies.Refused e) ⊎ ((cause : SerdeCause) × (refused_cause (insertion cache i) ≡ Some cause) × (replies.Refused e ≡ replies.Refused (SerdeError cause [])))
  failed e k = inserts_fail (call_site (setup_at cache base) k.call.number) i k.call.moves (replies.Refused e) k.run

  serde : (cause : SerdeCause) (message : List ℕ) → Known cache base (commands.Insert i) (replies.Refused (SerdeError cause message)) old new → refused_cause (insertion cache i) ≡ Some cause
  serde cause message k =
      elim (failed (SerdeError cause message) k) [
        | inl h ↦ absurd h
        | inr h ↦ let same : h.0 ≡ cause = cc in h.1 ∙ ap Some same
      ]

  no_other : (e : Error) → Known cache base (commands.Insert i) (replies.Refused e) old new → (FailsOnly (replies.Refused e) → ⊥)
      → ((cause : SerdeCause) → replies.Refused e ≡ replies.Refused (SerdeError cause []) → ⊥) → ⊥
  no_other e k fails serde = elim (failed e k) [ inl h ↦ fails h | inr h ↦ serde h.0 h.2 ]

module _ (cache base : List ℕ) (i : Insert) (old new : List LogItem) (formed : IfSome i.options.integrity IsIntegrity) where
  inserts : (r : Reply) → Known cache base (commands.Insert i) r old new → InsertsKey cache i r old new
  inserts (replies.Stored j) k =
      leads cache i old new i.options.integrity refl formed
      (ap (λ x. entries_on (home_of cache) x i.key) k.leads ∙ inserts_add (setup_at cache base) (tree_of old) k.call i j k.command_is k.reply_is k.answers)
  inserts (replies.Refused OutOfMemory) k = inl refl
  inserts (replies.Refused (IoError fault message)) k = excuse cache base (commands.Insert i) old new (λ fault none. none) (IoError fault message) k tt
  inserts (replies.Refused (SerdeError cause message)) k = serde cache base i old new cause message k
  inserts (replies.Refused (EntryNotFound c l)) k = absurd (no_other cache base i old new (EntryNotFound c l) k (λ h. h) (λ cause e. absurd cc))
  inserts (replies.Refused (SizeMismatch wanted actual)) k = absurd (no_other cache base i old new (SizeMismatch wanted actual) k (λ h. h) (λ cause e. absurd cc))
  inserts (replies.Refused (IntegrityError fault)) k = absurd (no_other cache base i old new (IntegrityError fault) k (λ h. h) (λ cause e. absurd cc))
  inserts r k = let no = only cache base i old new r k in absurd cc

pub inserts_last : InsertsLast
inserts_last cache i r old new formed written sound c =
    let k = known cache (commands.Insert i) r old new c written tt sound in
    let case : InsertionAdds (insertion cache i) (deeds (turns_on (tree_of old) k.call.moves)) (Some k.call.reply)
    = subst (λ x. IsCase (call_site (setup_at cache c.base) k.call.number) x (turns_on (tree_of old) k.call.moves) (Some k.call.reply)) k.command_is k.answers.commits in
    let follows = subst (λ t. Alike (value_of_tree (home_of cache) t) (after_deeds (home_of cache) (deeds (turns_on (tree_of old) k.call.moves)) (value_of_tree (home_of cache) (tree_of old)))) (sym k.leads) k.answers.follows in
    (k.sound, inserts cache c.base i old new formed r k, adds_keep cache (insertion cache i) old new (deeds (turns_on (tree_of old) k.call.moves)) (Some k.call.reply) case follows)

-- ---- plain insertions

pub given_utf8 : (integrity : Option (List Hash)) → IsUtf8IfAny (given_text integrity)
given_utf8 integrity = grind (arith, integrity_utf8)

-- ---- what comes of it

joined : (cache key bytes : List ℕ) (i : List Hash) (log : List LogItem) (o : Option Found) → found_under cache key log ≡ o → option_map (λ (found : Found). found.integrity) o ≡ Some i → HasContent cache i bytes log
    → HasKey cache key i bytes log
joined cache key bytes i log o leads is h = grind (arith, leads)

pub keys_join : KeysJoin
keys_join cache key bytes i log leads h = search (rules, joined, leads)

lacks : (o : Option Found) → option_map (λ (found : Found). found.integrity) o ≡ None → o ≡ None
lacks o e = grind (arith, common_steps)

pub none_lacks : NoneLacks
none_lacks cache key log e = lacks (found_under cache key log) e
