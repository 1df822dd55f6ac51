-- What calls answer if all of their steps succeed.
-- Open writers if all of their steps succeed.
use Rattle.std.proofs.{lemmas.{Grind.{common_steps}, List.Elements.{All-head}}, Common.{rules, ◌≡◌, inl, inr, ℕ, List, [], ◌∷◌, ◌++◌, Option, None, Some, Ok, refl, sym, ap, subst, ◌∙◌, arith, Err}}
use Rattle.sha1.specs.Sha1.{sha1}
use Rattle.cacache_core.specs.{declared.{errors.{Error.TheVariants.{EntryNotFound, IoError, OutOfMemory}, Fault.{Fault}}, integrity.digest.Hash.{Hash}}, Integrity.{IsHash, IsIntegrity, address}, Paths.{Names, names_of, home_of, temp_names, folder_names}}
use Rattle.cacache_store.specs.{declared.store.{log.LogItem.{LogItem}, plain.PlainTemp.{PlainTemp}}, Plain.{PlainAnswer}}
use Rattle.cacache_disk.specs.{Tree.{Tree, look}, Replay.{tree_of, IsLog}, declared.luck.Luck.TheVariants.{Plain}, Apply.{apply, made_temp}}
use Rattle.cacache_entry.specs.Bucket.{Found, latest}
use Rattle.cacache_calls.specs.{declared.{carried.Lookup.{Lookup}, command.Command.{Command}, reply.Reply.{Reply, TheVariants.{LookedUp, Exists, Done, Refused}}}, Inserting.{insert, insertion, deletion}, Removing.{remove_content}, Reading.{found_for}, Replies.{OrMemory}, State.{Insertion, reading, asking, over}, Table.{opening}, Runs.{Gains, Moves}, Steps.{temp_folder, temp_path}, Storing.{persist, put_commit}}
use Rattle.cacache_value.specs.{Kinds.{node_below}, Placed.{Placed}, Shows.{blob_there}, Value.{Blob, value_of_tree}}
use Rattle.cacache_history.{specs.Turns.{blob_at}, proofs.Entries.Spelled.{HasIntegrity, latest_has}}
use Rattle.cacache_laws.specs.{Caches.{Called, setup_at}, Beside.{found_under}, ReadAnswers.{entries_on, get_on, read_on}, Standing.{IsStanding}, Succeeds.{NamesFolder, insertion_reply, put_reply, is_yes, removal_reply, PutsAnswer, InsertionsAnswer, DeletionsAnswer, LookupsAnswer, ContentReadsAnswer, KeyReadsAnswer, QuestionsAnswer, RemovalsAnswer, IsUnused}, OpenSucceeds.{FileAt, OpeningsSucceed, CommitsAnswer}, OpenWriters.{make_file, make_folder}}
use Rattle.cacache_laws.proofs.{Readings.Standing.{caches_stand}, Sure.{SureInserts.{Inserted, inserts_so}, SurePuts.{PutSo, puts_so, persist_ends}, SureTemps.{own_temporary_at, made_file, temp_folder_lies, with_folder}, SureReads.{looks_so, reads_so, asks_so, removes_so}, SurePlays.{Plays, of_plays}, SureRuns.{EndsSo, ends, of_log, Ground, makes_dirs}}, trees.{Covering.{home_named}, Logged.{gains_join}}, Calls.InParts.{logs_lead}, Putting.WrittenFiles.{Stands, created_so}}
use Rattle.cacache_calls.specs.declared.carried.Aim.TheVariants as aims
use Rattle.cacache_calls.specs.declared.command.Command.TheVariants as commands
use Rattle.cacache_store.specs.declared.store.answer.Answer.TheVariants as answers

-- ---- a store on which no step fails

pub home_ground : (cache : List ℕ) (log : List LogItem) (home : Names) → home_of cache ≡ Some home → IsStanding cache log → Ground home (tree_of log)
home_ground cache log home is standing = search rules

pub ground : (cache : List ℕ) (log : List LogItem) (home : Names) → names_of cache ≡ Ok home → IsStanding cache log → Ground home (tree_of log)
ground cache log home is = home_ground cache log home (home_named cache home is)

-- what holds with the folder's names holds with the cache's
pub back : (cache : List ℕ) (home : Names) → names_of cache ≡ Ok home → (P : Option Names → Type 0) → P (Some home) → P (home_of cache)
back cache home is P p = subst P (sym (home_named cache home is)) p

pub either : {A B : Type 0} (r : Reply) → (A → B) → OrMemory A r → OrMemory B r
either r f h = grind (arith, common_steps)

-- ---- what stores

pub puts_answer : PutsAnswer
puts_answer cache p r old new c folder standing unused =
    let home = folder.0 in
    let none = subst (λ h. node_below h (tree_of old) (temp_names c.number) ≡ None) (home_named cache home folder.1) unused in
    back cache home folder.1 (λ h. OrMemory ((r ≡ put_reply cache p) × (node_below h (tree_of new) (temp_names c.number) ≡ None)) r)
    (of_plays (PutSo cache home folder.1 p (home ++ temp_names c.number) (own_temporary_at cache home folder.1 c.number) (put_reply cache p)) (opening (record { cache = cache; base = c.base; number = c.number }) (commands.Put p)) r old new
    (puts_so cache home folder.1 p c.number c.base (tree_of old) (ground cache old home folder.1 standing) none) c.ran c.logged)

-- an insertion at this cache
inserted : (cache : List ℕ) (i : Insertion) (command : Command) (r : Reply) (old new : List LogItem) (c : Called cache command r old new) → i.cache ≡ cache
    → opening (record { cache = cache; base = c.base; number = c.number }) command ≡ insert i → NamesFolder cache → IsStanding cache old → OrMemory (r ≡ insertion_reply i) r
inserted cache i command r old new c here begins folder standing =
    let home = folder.0 in
    let is = ap names_of here ∙ folder.1 in
    let g = ground cache old home folder.1 standing in
    let Q = Inserted i home is (tree_of old) g (insertion_reply i) in
    either r (λ h. h.0)
    (of_plays (Inserted i home (ap names_of here ∙ folder.1) (tree_of old) (ground cache old home folder.1 standing) (insertion_reply i)) (opening (record { cache = cache; base = c.base; number = c.number }) command) r old new
    (subst (Plays Q (tree_of old)) (sym begins) (inserts_so i home is (tree_of old) g)) c.ran c.logged)

pub insertions_answer : InsertionsAnswer
insertions_answer cache i r old new folder standing c = inserted cache (insertion cache i) (commands.Insert i) r old new c refl refl folder standing

pub deletions_answer : DeletionsAnswer
deletions_answer cache d r old new folder standing c = inserted cache (deletion cache d) (commands.Delete d) r old new c refl refl folder standing

-- ---- what looks

pub lookups_answer : LookupsAnswer
lookups_answer cache key r old new folder standing c =
    let home = folder.0 in
    let t = tree_of old in
    back cache home folder.1 (λ h. OrMemory (r ≡ LookedUp (latest key (entries_on h (tree_of old) key))) r)
    (of_log (λ _ x. x ≡ LookedUp (latest key (entries_on (Some home) t key))) (opening (record { cache = cache; base = c.base; number = c.number }) (commands.Find key)) r old new
    (looks_so (λ _ x. x ≡ LookedUp (latest key (entries_on (Some home) t key))) home t (ground cache old home folder.1 standing) (record { cache = cache; key = key; aim = aims.Report }) (home_named cache home folder.1)
    (ends (λ _ x. x ≡ LookedUp (latest key (entries_on (Some home) t key))) t (LookedUp (latest key (entries_on (Some home) t key))) refl)) c.ran c.logged)

-- a read of an integrity's content
reads_at : (cache : List ℕ) (home : Names) (is : home_of cache ≡ Some home) (t : Tree) (g : Ground home t) (i : List Hash) → IsIntegrity i
    → EndsSo (λ _ x. x ≡ read_on (Some home) t i) t (reading (record { cache = cache; integrity = i }))
reads_at cache home is t g [] formed = absurd (omega (arith, formed.nonempty))
reads_at cache home is t g (h ∷ hs) formed = reads_so (λ _ x. x ≡ read_on (Some home) t (h ∷ hs)) home t g cache is h hs (All-head IsHash h hs formed.hashes) refl

pub content_reads_answer : ContentReadsAnswer
content_reads_answer cache i r old new folder standing formed c =
    let home = folder.0 in
    back cache home folder.1 (λ h. OrMemory (r ≡ read_on h (tree_of old) i) r)
    (of_log (λ _ x. x ≡ read_on (Some home) (tree_of old) i) (opening (record { cache = cache; base = c.base; number = c.number }) (commands.GetHash i)) r old new
    (reads_at cache home (home_named cache home folder.1) (tree_of old) (ground cache old home folder.1 standing) i formed) c.ran c.logged)

module _ (cache key : List ℕ) (home : Names) (is : home_of cache ≡ Some home) (t : Tree) (g : Ground home t) where
  abbrev look_up : Lookup
  look_up = record { cache = cache; key = key; aim = aims.Read }

  by_found : (found : Option Found) → HasIntegrity found → EndsSo (λ _ x. x ≡ get_on (setup_at cache []) t key found) t (found_for look_up aims.Read found)
  by_found None has = ends (λ _ x. x ≡ Refused (EntryNotFound cache key)) t (Refused (EntryNotFound cache key)) refl
  by_found (Some f) has = search (rules, reads_at, g)

-- a read by key of what is there, if what the key leads to has an integrity
pub standing_key_reads : (cache key : List ℕ) (home : Names) (r : Reply) (old new : List LogItem) → home_of cache ≡ Some home → IsStanding cache old → HasIntegrity (found_under cache key old)
    → Called cache (commands.Get key) r old new → OrMemory (r ≡ get_on (setup_at cache []) (tree_of old) key (found_under cache key old)) r
standing_key_reads cache key home r old new is standing formed c =
    let t = tree_of old in
    let g = home_ground cache old home is standing in
    let has : HasIntegrity (latest key (entries_on (Some home) t key)) = subst (λ h. HasIntegrity (latest key (entries_on h (tree_of old) key))) is formed in
    let Q : Tree → Reply → Type 0 = λ _ x. x ≡ get_on (setup_at cache []) (tree_of old) key (latest key (entries_on (Some home) (tree_of old) key)) in
    subst (λ h. OrMemory (r ≡ get_on (setup_at cache []) (tree_of old) key (latest key (entries_on h (tree_of old) key))) r) (sym is)
    (of_log Q (opening (record { cache = cache; base = c.base; number = c.number }) (commands.Get key)) r old new
    (looks_so Q home t g (look_up cache key home is t g) is (by_found cache key home is t g (latest key (entries_on (Some home) t key)) has)) c.ran c.logged)

pub key_reads_answer : KeyReadsAnswer
key_reads_answer cache key r old new folder sound c =
    standing_key_reads cache key folder.0 r old new (home_named cache folder.0 folder.1) (caches_stand cache old sound)
    (latest_has key (entries_on (home_of cache) (tree_of old) key) (sound.formed (sha1 key))) c

-- ---- questions and removals

module _ (cache : List ℕ) (home : Names) (is : names_of cache ≡ Ok home) (t : Tree) (g : Ground home t) where
  -- what lies there
  abbrev lies_at : List Hash → Option Blob
  lies_at i = blob_at (value_of_tree (Some home) t) (address i)

  asks_at : (i : List Hash) → IsIntegrity i → EndsSo (λ _ x. x ≡ Exists (is_yes (blob_there t (lies_at i)))) t (asking (record { cache = cache; integrity = i }))
  asks_at [] formed = absurd (omega (arith, formed.nonempty))
  asks_at (h ∷ hs) formed = asks_so (λ _ x. x ≡ Exists (is_yes (blob_there t (lies_at (h ∷ hs))))) home t g cache (home_named cache home is) h hs (All-head IsHash h hs formed.hashes) refl

  removes_at : (i : List Hash) → IsIntegrity i → EndsSo (λ _ x. x ≡ removal_reply (lies_at i)) t (remove_content cache i (over Done))
  removes_at [] formed = absurd (omega (arith, formed.nonempty))
  removes_at (h ∷ hs) formed =
      removes_so (λ _ x. x ≡ removal_reply (lies_at (h ∷ hs))) home t g cache (home_named cache home is) h hs (All-head IsHash h hs formed.hashes) (over Done)
      (λ blob there rest. ends (λ _ x. x ≡ removal_reply (lies_at (h ∷ hs))) _ Done (sym (ap removal_reply there)))
      (λ none. sym (ap removal_reply none))

pub questions_answer : QuestionsAnswer
questions_answer cache i r old new folder standing formed c =
    let home = folder.0 in
    back cache home folder.1 (λ h. OrMemory (r ≡ Exists (is_yes (blob_there (tree_of old) (blob_at (value_of_tree h (tree_of old)) (address i))))) r)
    (of_log (λ _ x. x ≡ Exists (is_yes (blob_there (tree_of old) (blob_at (value_of_tree (Some home) (tree_of old)) (address i))))) (opening (record { cache = cache; base = c.base; number = c.number }) (commands.Exists i)) r old new
    (asks_at cache home folder.1 (tree_of old) (ground cache old home folder.1 standing) i formed) c.ran c.logged)

pub removals_answer : RemovalsAnswer
removals_answer cache i r old new folder standing formed c =
    let home = folder.0 in
    back cache home folder.1 (λ h. OrMemory (r ≡ removal_reply (blob_at (value_of_tree h (tree_of old)) (address i))) r)
    (of_log (λ _ x. x ≡ removal_reply (blob_at (value_of_tree (Some home) (tree_of old)) (address i))) (opening (record { cache = cache; base = c.base; number = c.number }) (commands.RemoveHash i)) r old new
    (removes_at cache home folder.1 (tree_of old) (ground cache old home folder.1 standing) i formed) c.ran c.logged)

-- ---- openings

module _ (cache : List ℕ) (number : ℕ) (old new : List LogItem) (logged : IsLog new) where
  -- the folder is made, and then the file
  abbrev two : PlainAnswer → Moves
  two a = (make_folder cache number, answers.Done) ∷ (make_file cache number, a) ∷ []

  -- the tree with the folder
  abbrev made : Tree
  made = (apply (tree_of old) (make_folder cache number) Plain).1

  opened_file : (file : PlainTemp) (mid : Option (List LogItem)) → Gains (Some old) mid ((make_folder cache number, answers.Done) ∷ []) → Gains mid (Some new) ((make_file cache number, answers.Temp file) ∷ []) → FileAt file.path new
  opened_file file mid first second =
      let lead = logs_lead old new (two (answers.Temp file)) (gains_join (Some old) mid (Some new) ((make_folder cache number, answers.Done) ∷ []) ((make_file cache number, answers.Temp file) ∷ []) first second) logged in
      let s = created_so made (temp_path cache number) file (sym lead.0.1.0) in
      (s.names, s.was, s.named, ap (λ t. look t s.names) lead.1 ∙ s.there)

  -- neither step fails
  folder_not : (fault : Fault) → apply (tree_of old) (make_folder cache number) Plain ≡ (answers.Done, made) → Gains (Some old) (Some new) ((make_folder cache number, answers.Failed fault) ∷ []) → ⊥
  folder_not fault done gains =
      let lead = logs_lead old new ((make_folder cache number, answers.Failed fault) ∷ []) gains logged in
      let both : answers.Failed fault ≡ answers.Done = lead.0.0 ∙ ap (λ (r : PlainAnswer × Tree). r.0) done in cc

  file_not : (fault : Fault) (mid : Option (List LogItem)) → Gains (Some old) mid ((make_folder cache number, answers.Done) ∷ []) → Gains mid (Some new) ((make_file cache number, answers.Failed fault) ∷ [])
      → (apply made (make_file cache number) Plain).0 ≡ answers.Temp (made_temp (temp_path cache number)) → ⊥
  file_not fault mid first second is =
      let lead = logs_lead old new (two (answers.Failed fault)) (gains_join (Some old) mid (Some new) ((make_folder cache number, answers.Done) ∷ []) ((make_file cache number, answers.Failed fault) ∷ []) first second) logged in
      let both : answers.Failed fault ≡ answers.Temp (made_temp (temp_path cache number)) = lead.0.1.0 ∙ is in cc

  -- on such a store
  module _ (folder : NamesFolder cache) (standing : IsStanding cache old) (unused : IsUnused cache number old) where
    abbrev home : Names
    home = folder.0

    g : Ground home (tree_of old)
    g = ground cache old home folder.1 standing

    free : look (tree_of old) (home ++ temp_names number) ≡ None
    free = subst (λ h. node_below h (tree_of old) (temp_names number) ≡ None) (home_named cache home folder.1) unused

    folder_is : apply (tree_of old) (make_folder cache number) Plain ≡ (answers.Done, with_folder cache home folder.1 number (tree_of old) g free)
    folder_is = makes_dirs home (tree_of old) g (temp_folder cache) (folder_names (temp_names 0)) (temp_folder_lies cache home folder.1)

    folder_done : apply (tree_of old) (make_folder cache number) Plain ≡ (answers.Done, made)
    folder_done = folder_is ∙ ap (λ (r : PlainAnswer × Tree). (answers.Done, r.1)) (sym folder_is)

    file_made : (apply made (make_file cache number) Plain).0 ≡ answers.Temp (made_temp (temp_path cache number))
    file_made = search (rules, folder_is, made_file, g, free)

pub openings_succeed : OpeningsSucceed
openings_succeed cache number (Ok file) old new folder standing unused opens logged = (opened_file cache number old new logged file opens.0 opens.1 opens.2, tt)
openings_succeed cache number (Err (IoError fault message)) old new folder standing unused opens logged =
    elim opens [
      | inl f ↦ absurd (folder_not cache number old new logged fault (folder_done cache number old new logged folder standing unused) f)
      | inr s ↦ absurd (file_not cache number old new logged fault s.0 s.1 s.2 (file_made cache number old new logged folder standing unused))
    ]
openings_succeed cache number (Err OutOfMemory) old new folder standing unused opens logged = (tt, refl)
openings_succeed cache number (Err e) old new folder standing unused opens logged = elim opens [ inl f ↦ absurd f | inr s ↦ absurd s.2 ]

-- ---- commits

pub commits_answer : CommitsAnswer
commits_answer cache p number r old new folder standing file c =
    let home = folder.0 in
    let t = tree_of old in
    let s : Stands t c.file = record {
      names = file.0;
      bytes = p.data;
      was = file.1;
      known_to_be = c.bytes_are;
      named = ap names_of c.path_is ∙ file.2;
      there = file.3;
    } in
    back cache home folder.1 (λ h. OrMemory ((r ≡ put_reply cache p) × (node_below h (tree_of new) (temp_names number) ≡ None)) r)
    (of_plays (PutSo cache home folder.1 p (home ++ temp_names number) (own_temporary_at cache home folder.1 number) (put_reply cache p)) (persist (put_commit cache p) c.file) r old new
    (persist_ends cache home folder.1 p number t (ground cache old home folder.1 standing) c.file s c.path_is) c.ran c.logged)
