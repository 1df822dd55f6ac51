-- Openings of readers and linkers in which all steps succeed.
use Rattle.std.proofs.{lemmas.{Grind.{common_steps}, List.Elements.{All-head}}, Common.{◌≡◌, inl, inr, ℕ, List, [], ◌∷◌, ◌++◌, Option, None, Some, Result, Ok, Err, length, map, refl, sym, ap, subst, ◌∙◌, arith}}
use Rattle.sha1.specs.Sha1.{sha1}
use Rattle.cacache_core.specs.{declared.{errors.{Error.{Error, TheVariants.{EntryNotFound, IoError, OutOfMemory}}, Fault.{Fault}}, integrity.digest.Hash.{Hash}}, Integrity.{IsHash, IsIntegrity, address}, Paths.{home_of}}
use Rattle.cacache_core.specs.declared.errors.Fault.TheVariants as faults
use Rattle.cacache_store.specs.declared.store.answer.Answer.TheVariants as answers
use Rattle.cacache_store.specs.{declared.store.{log.LogItem.{LogItem, TheVariants.{Made}}, plain.PlainFile.{PlainFile}}, Plain.{PlainAnswer}}
use Rattle.cacache_store.specs.declared.store.step.Step.TheVariants as steps
use Rattle.cacache_disk.specs.{Tree.{Tree}, LedTo.{file_at}, Apply.{opened, unless}, Replay.{tree_of, IsLog}}
use Rattle.cacache_entry.specs.Bucket.{Found}
use Rattle.cacache_calls.specs.declared.command.Command.TheVariants as commands
use Rattle.cacache_calls.specs.{declared.reply.Reply.{Reply, TheVariants.{LookedUp, Refused}}, Replies.{OrMemory}, Runs.{Moves, plain_reply, without_message}, SingleSteps.{Does, FailsAt}, Steps.{content_path}}
use Rattle.cacache_value.specs.{Shows.{blob_bytes}, Value.{value_of_tree}}
use Rattle.cacache_history.{specs.Turns.{blob_at}, proofs.Entries.Spelled.{HasIntegrity, latest_has}}
use Rattle.cacache_laws.specs.{Caches.{Called, IsCache}, Beside.{found_under}, LinkAnswers.{KeyReadersAnswer, LinkerOpeningsAnswer, OpensAs, OpensLed, ReadersAnswer, SizedOpeningsAnswer, target_bytes}, Looks.{bytes_under}, OpenLinkers.{OpensTarget, TellsSize}, OpenReaders.{LookupRan, OpensContent, OpensWhatWasFound}, ReadAnswers.{entries_on}, Sequence.{IsSound}, Succeeds.{NamesFolder}}
use Rattle.cacache_laws.proofs.{Calls.{InParts.{logs_lead}, Replays.{some_same}, CallErrors.{plain_error, memory_error}}, Readings.{Looks.{tree_stays}, OpenReaders.{log_front, opened_by, by_key}, ReadAnswers.{sizing_keeps}, Standing.{caches_stand}}, Sure.{Succeeds.{back, ground, lookups_answer}, SureReads.{opens_as, sizes_as, bytes_at}}, Links.TargetBytes.{target_opened}, trees.Covering.{home_named}}

-- ---- the opening of a file

module _ (path : List ℕ) (old new : List LogItem) (logged : IsLog new) where
  -- the step answered as the disk's table says
  answered : (r : Result (List ℕ) Fault) → file_at (tree_of old) path faults.IsADirectory ≡ r → (a : PlainAnswer) → Does (steps.Open path) a (Some old) (Some new)
      → a ≡ (unless r (tree_of old) (λ bytes. (answers.File (opened bytes), tree_of old))).0
  answered r e a does = (logs_lead old new ((steps.Open path, a) ∷ []) does logged).0.0 ∙ ap (λ (x : PlainAnswer × Tree). x.0) (opens_as (tree_of old) path r e)

  failed : (r : Result (List ℕ) Fault) → file_at (tree_of old) path faults.IsADirectory ≡ r → (fault : Fault) (message : List ℕ) → Does (steps.Open path) (answers.Failed fault) (Some old) (Some new) → OpensAs r (Err (IoError fault message))
  failed (Ok bytes) e fault message does = let no : answers.Failed fault ≡ answers.File (opened bytes) = answered (Ok bytes) e (answers.Failed fault) does in absurd cc
  failed (Err other) e fault message does =
      let same : answers.Failed fault ≡ answers.Failed other = answered (Err other) e (answers.Failed fault) does in
      let one : fault ≡ other = cc in
      inr (ap (λ f. IoError f []) one)

  opened_so : (r : Result (List ℕ) Fault) → file_at (tree_of old) path faults.IsADirectory ≡ r → (file : PlainFile) → Does (steps.Open path) (answers.File file) (Some old) (Some new) → OpensAs r (Ok file)
  opened_so (Ok bytes) e file does = let same : answers.File file ≡ answers.File (opened bytes) = answered (Ok bytes) e (answers.File file) does in cc
  opened_so (Err fault) e file does = let no : answers.File file ≡ answers.Failed fault = answered (Err fault) e (answers.File file) does in absurd cc

-- memory may always be refused
memory_so : (r : Result (List ℕ) Fault) (e : Error) → e ≡ OutOfMemory → OpensAs r (Err e)
memory_so r e is = grind (arith, common_steps)

opens_so : (path : List ℕ) (content : Result (List ℕ) Fault) (r : Result PlainFile Error) (old new : List LogItem) → file_at (tree_of old) path faults.IsADirectory ≡ content
    → OpensTarget path r (Some old) (Some new) → IsLog new → OpensAs content r
opens_so path content r old new is h logged = grind (arith, opened_so, failed, memory_so)

pub linker_openings_answer : LinkerOpeningsAnswer
linker_openings_answer path r old new h logged = opens_so path (target_bytes path old) r old new refl h logged

-- ---- a file for which the size is asked first

module _ (path : List ℕ) (old new : List LogItem) (logged : IsLog new) where
  -- the question fails as an opening does
  size_failed : (r : Result (List ℕ) Fault) → file_at (tree_of old) path faults.IsADirectory ≡ r → (fault : Fault) (message : List ℕ) → Does (steps.Size path) (answers.Failed fault) (Some old) (Some new) → OpensAs r (Err (IoError fault message))
  size_failed r e fault message does = by r ((logs_lead old new ((steps.Size path, answers.Failed fault) ∷ []) does logged).0.0 ∙ ap (λ (x : PlainAnswer × Tree). x.0) (sizes_as (tree_of old) path r e))
    where
      by : (r : Result (List ℕ) Fault) → answers.Failed fault ≡ (unless r (tree_of old) (λ bytes. (answers.Length (length bytes), tree_of old))).0 → OpensAs r (Err (IoError fault message))
      by (Ok bytes) is = absurd cc
      by (Err other) is = let one : fault ≡ other = cc in inr (ap (λ f. IoError f []) one)

  size_fails : (e : Error) → FailsAt (steps.Size path) e (Some old) (Some new) → OpensAs (target_bytes path old) (Err e)
  size_fails e h = grind (arith, size_failed, memory_so)

  -- once it was reported the file is opened
  size_told : (r : Result PlainFile Error) (size : ℕ) (mid : Option (List LogItem)) → TellsSize path size (Some old) mid → OpensTarget path r mid (Some new) → OpensAs (target_bytes path old) r
  size_told r size mid told h =
      let asked : Moves = (steps.Size path, answers.Length size) ∷ [] in
      let log = old ++ map (λ m. Made m.0 m.1) asked in
      let opens = subst (λ x. OpensTarget path r x (Some new)) told h in
      let o = target_opened path r log new opens in
      let is_log = log_front log new (map (λ m. Made m.0 m.1) o.moves) (some_same new _ o.gains) logged in
      let same = (logs_lead old log asked refl is_log).1 ∙ sizing_keeps (tree_of old) path in
      subst (λ t. OpensAs (file_at t path faults.IsADirectory) r) same (opens_so path (target_bytes path log) r log new refl opens logged)

pub sized_openings_answer : SizedOpeningsAnswer
sized_openings_answer path (Ok (size, file)) old new h logged = size_told path old new logged (Ok file) size h.0 h.1 h.2
sized_openings_answer path (Err e) old new (inl h) logged = size_fails path old new logged e h
sized_openings_answer path (Err e) old new (inr h) logged = size_told path old new logged (Err e) h.0 h.1 h.2 h.3

-- ---- by integrity

as_target : (cache : List ℕ) (i : List Hash) (r : Result PlainFile Error) (old new : Option (List LogItem)) → OpensContent cache i r old new → OpensTarget (content_path cache i) r old new
as_target cache i r old new h = grind (arith, common_steps)

pub readers_answer : ReadersAnswer
readers_answer cache [] r old new folder standing formed h logged = absurd (omega (arith, formed.nonempty))
readers_answer cache (a ∷ hs) r old new folder standing formed h logged =
    let home = folder.0 in
    let path = content_path cache (a ∷ hs) in
    let held = back cache home folder.1 (λ h. file_at (tree_of old) (content_path cache (a ∷ hs)) faults.IsADirectory ≡ blob_bytes (tree_of old) (blob_at (value_of_tree h (tree_of old)) (Some a)))
    (bytes_at home (tree_of old) (ground cache old home folder.1 standing) cache (home_named cache home folder.1) a hs (All-head IsHash a hs formed.hashes)) in
    opens_so path (bytes_under cache (a ∷ hs) old) r old new held (as_target cache (a ∷ hs) r (Some old) (Some new) h) logged

-- ---- by key

module _ (cache base key : List ℕ) (old new : List LogItem) (folder : NamesFolder cache) (sound : IsCache cache old) (logged : IsLog new) where
  -- a lookup of the key gave what it leads to
  looked : (r : Reply) (mid : List LogItem) → plain_reply r ≡ r → LookupRan cache base key r (Some old) (Some mid) → IsLog mid → OrMemory (r ≡ LookedUp (found_under cache key old)) r
  looked r mid plain ran is_log = lookups_answer cache key r old mid folder (caches_stand cache old sound) (record { base = base; number = 0; ran = ran; plain = plain; logged = is_log })

  memory_led : (found : Option Found) (e : Error) → e ≡ OutOfMemory → OpensLed cache key found (Err e) old
  memory_led found e is = grind (arith, memory_so)

  refused : (e : Error) → LookupRan cache base key (Refused (without_message e)) (Some old) (Some new) → OpensLed cache key (found_under cache key old) (Err e) old
  refused e ran =
      elim (looked (Refused (without_message e)) new (ap Refused (plain_error e)) ran logged) [
        | inl m ↦ memory_led (found_under cache key old) e (let same : without_message e ≡ OutOfMemory = cc in memory_error e same)
        | inr differs ↦ absurd cc
      ]

  missing : (c k : List ℕ) → c ≡ cache → k ≡ key → LookupRan cache base key (LookedUp None) (Some old) (Some new) → OpensLed cache key (found_under cache key old) (Err (EntryNotFound c k)) old
  missing c k here mine ran =
      elim (looked (LookedUp None) new refl ran logged) [
        | inl differs ↦ absurd cc
        | inr is ↦
            let none : None ≡ found_under cache key old = cc in
            subst (λ found. OpensLed cache key found (Err (EntryNotFound c k)) old) none (inr (ap (λ x. EntryNotFound x k) here ∙ ap (EntryNotFound cache) mine))
      ]

  has : HasIntegrity (found_under cache key old)
  has = latest_has key (entries_on (home_of cache) (tree_of old) key) (sound.formed (sha1 key))

  found_at : (r : Result PlainFile Error) (found : Found) (mid : List LogItem) → LookupRan cache base key (LookedUp (Some found)) (Some old) (Some mid) → IsLog mid
      → OpensContent cache found.integrity r (Some mid) (Some new) → OpensLed cache key (found_under cache key old) r old
  found_at r found mid ran is_log opens =
      elim (looked (LookedUp (Some found)) mid refl ran is_log) [
        | inl differs ↦ absurd cc
        | inr is ↦
            let led : Some found ≡ found_under cache key old = cc in
            let c : Called cache (commands.Find key) (LookedUp (Some found)) old mid = record { base = base; number = 0; ran = ran; plain = refl; logged = is_log } in
            let same = tree_stays cache (commands.Find key) (LookedUp (Some found)) old mid tt c in
            let still = subst (IsSound (home_of cache)) (sym same) sound in
            let formed : IsIntegrity found.integrity = subst HasIntegrity (sym led) has in
            let opened_so = readers_answer cache found.integrity r mid new folder (caches_stand cache mid still) formed opens logged in
            subst (λ f. OpensLed cache key f r old) led
            (subst (λ t. OpensAs (blob_bytes t (blob_at (value_of_tree (home_of cache) t) (address found.integrity))) r) same opened_so)
      ]

  found : (r : Result PlainFile Error) → OpensWhatWasFound cache base key r (Some old) (Some new) → OpensLed cache key (found_under cache key old) r old
  found r h =
      let mid = old ++ map (λ m. Made m.0 m.1) h.2.0 in
      let opens = subst (λ x. OpensContent cache h.0.integrity r x (Some new)) h.2.2 h.3 in
      let o = opened_by cache h.0.integrity r mid new opens in
      found_at r h.0 mid (h.2.0, h.2.1, refl) (log_front mid new (map (λ m. Made m.0 m.1) o.moves) (some_same new _ o.gains) logged) opens

pub key_readers_answer : KeyReadersAnswer
key_readers_answer cache base key r old new folder sound h logged =
    by_key cache base key old new (λ r. OpensLed cache key (found_under cache key old) r old) (found cache base key old new folder sound logged) (refused cache base key old new folder sound logged) (missing cache base key old new folder sound logged) r h
