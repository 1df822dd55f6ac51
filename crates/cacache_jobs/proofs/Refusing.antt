-- How an insertion ends before its first step, a refused step ends its call, and which integrity stands for a missing one.
use Rattle.std.{proofs.Common.{◌≡◌, List, Result, Ok, Err, refl, sym, ◌∙◌, codes, rules}, specs.Prelude.{IfOk, IfErr}}
use Rattle.base64.specs.Decode.{groups_error, scan_steps, groups_bytes}
use Rattle.cacache_core.specs.{declared.{errors.Error.{Error, TheVariants.{EntryNotFound, SizeMismatch, IoError, SerdeError, IntegrityError, OutOfMemory}}, integrity.digest.Hash.{Hash}}, Errors.{IsReadFailure}, Texts.{read_integrity}}
use Rattle.cacache_entry.specs.View.{IsRefusal}
use Rattle.cacache_calls.specs.{State.{Insertion, State}, Inserting.{insert, no_integrity, refused_cause}, Runs.{EndsAs}, declared.answers.Refusal.{Refusal}, Common.{go_on, fails, refuse}}
use Rattle.cacache_jobs.specs.LeadsOn.{EndsRefused}

-- if an entry is refused with an error, the call ends with that error
pub refusal_ends : (j : Insertion) (e : Error) → IsRefusal j.entry e → EndsAs e (insert j)
unfolding refused_cause
refusal_ends j (EntryNotFound cache key) h = absurd cc
refusal_ends j (SizeMismatch wanted actual) h = absurd cc
refusal_ends j (IoError fault message) h = absurd cc
refusal_ends j (SerdeError cause text) h = rw h.0 (search rules)
refusal_ends j (IntegrityError fault) h = absurd cc
refusal_ends j OutOfMemory h = search rules

-- the text of the integrity that stands for a missing one
pub dead_beef : read_integrity (codes "sha1-deadbeef") ≡ Ok no_integrity
unfolding read_integrity groups_error scan_steps groups_bytes
dead_beef = refl

-- reading that text returns exactly that integrity
pub reading_gives : (r : Result (List Hash) Error) → IfOk r (λ i. read_integrity (codes "sha1-deadbeef") ≡ Ok i) → IfOk r (λ i. i ≡ no_integrity)
reading_gives (Ok i) h = let same : Ok no_integrity ≡ Ok i = sym dead_beef ∙ h in cc
reading_gives (Err e) h = search rules

-- reading that text fails only if memory runs out
only_memory : (e : Error) → IsReadFailure (Ok no_integrity) e → e ≡ OutOfMemory
only_memory (EntryNotFound cache key) h = absurd h
only_memory (SizeMismatch wanted actual) h = absurd h
only_memory (IoError fault message) h = absurd h
only_memory (SerdeError cause text) h = absurd h
only_memory (IntegrityError fault) h = absurd cc
only_memory OutOfMemory h = refl

pub reading_fails : {T : Type 0} (r : Result T Error) → IfErr r (IsReadFailure (read_integrity (codes "sha1-deadbeef"))) → IfErr r (λ e. e ≡ OutOfMemory)
reading_fails (Ok x) h = search rules
reading_fails (Err e) h = only_memory e (rw dead_beef at h)

-- ---- a refused step ends its call

pub refused_ends : {Y : Type 0} (a : Result Y Refusal) (refusal : Refusal) (e : Error) → Err refusal ≡ a → EndsAs e (refuse refusal fails) → EndsRefused a e
refused_ends (Ok y) refusal e is ends = absurd cc
refused_ends (Err r) refusal e is ends = let same : refusal ≡ r = cc in rw same at ends

pub ends_refused : {Y : Type 0} (a : Result Y Refusal) (e : Error) (next : Y → State) → EndsRefused a e → EndsAs e (go_on a fails next)
ends_refused (Ok y) e next ends = absurd ends
ends_refused (Err refusal) e next ends = ends
