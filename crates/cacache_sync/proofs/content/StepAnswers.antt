-- What the answer to a single step says of it.
use Rattle.std.proofs.Common.{◌≡◌, inl, inr, ℕ, List, Option, Result, Ok, Err, refl}
use Rattle.cacache_core.specs.declared.errors.{Error.{Error, TheVariants.{IoError, OutOfMemory}}, Fault.{Fault}}
use Rattle.cacache_store.specs.declared.store.answer.Answer.TheVariants as answers
use Rattle.cacache_store.specs.{declared.store.{log.LogItem.{LogItem}, plain.PlainFile.{PlainFile}}, Plain.{Fits, Logs, PlainStep, PlainAnswer}}
use Rattle.cacache_store.specs.declared.store.step.Step.TheVariants as steps
use Rattle.cacache_calls.specs.{declared.answers.Refusal.{Refusal}, Answers.{done_in, temp_in, file_in, length_in, got_in}, Common.{ends_with, fails, refuse}, Runs.{EndsAs}, SingleSteps.{FailsAt}}
use Rattle.cacache_calls.specs.declared.answers.Refusal.TheVariants as refusals
use Rattle.cacache_jobs.specs.LeadsOn.{EndsRefused}

-- ---- an answer that refuses a step

-- the step failed
failed : (a : PlainStep) (fault : Fault) (e : Error) (old new : Option (List LogItem)) → Logs old new a (answers.Failed fault) → EndsAs e (fails fault) → FailsAt a e old new
failed a fault (IoError g message) old new logs (inl is) = let same : g ≡ fault = cc in rw same logs
failed a fault (IoError g message) old new logs (inr is) = absurd cc
failed a fault OutOfMemory old new logs ends = inr (fault, logs)
failed a fault e old new logs (inl is) = absurd cc
failed a fault e old new logs (inr is) = absurd cc

-- memory was refused for it
lost : (a : PlainStep) (e : Error) (old new : Option (List LogItem)) → new ≡ old → EndsAs e (ends_with OutOfMemory) → FailsAt a e old new
lost a OutOfMemory old new same ends = inl same
lost a e old new same (inl is) = absurd cc
lost a e old new same (inr is) = absurd cc

-- the answer refuses its step so
abbrev pub Refuses : PlainAnswer → Refusal → Type 0
Refuses (answers.Failed fault) refusal = refusal ≡ refusals.Fault fault
Refuses (answers.NoMemory b) refusal = refusal ≡ refusals.Memory
Refuses t refusal = ⊥

-- a step that was refused brought nothing
pub refused_fails : (a : PlainStep) (t : PlainAnswer) (refusal : Refusal) (e : Error) (old new : Option (List LogItem)) → Refuses t refusal → Logs old new a t → EndsAs e (refuse refusal fails) → FailsAt a e old new
refused_fails a (answers.Failed fault) refusal e old new is logs ends = failed a fault e old new logs (rw is at ends)
refused_fails a (answers.NoMemory b) refusal e old new is logs ends = lost a e old new logs (rw is at ends)
refused_fails a t refusal e old new is logs ends = absurd is

-- why a step that ended a call so was refused
pub refusal_of : {Y : Type 0} (a : Result Y Refusal) (e : Error) → EndsRefused a e → (refusal : Refusal) × (Err refusal ≡ a) × EndsAs e (refuse refusal fails)
refusal_of (Ok y) e ends = absurd ends
refusal_of (Err refusal) e ends = (refusal, refl, ends)

-- ---- which answers do, by the kind of the step

pub folder_refused : (path : List ℕ) (t : PlainAnswer) (refusal : Refusal) → Err refusal ≡ done_in t → Fits (steps.MakeDirs path) t → Refuses t refusal
folder_refused path (answers.Failed fault) refusal is fits = cc
folder_refused path (answers.NoMemory b) refusal is fits = cc
folder_refused path answers.Done refusal is fits = absurd cc
folder_refused path t refusal is fits = absurd fits

pub removal_refused : (path : List ℕ) (t : PlainAnswer) (refusal : Refusal) → Err refusal ≡ done_in t → Fits (steps.RemoveFile path) t → Refuses t refusal
removal_refused path (answers.Failed fault) refusal is fits = cc
removal_refused path (answers.NoMemory b) refusal is fits = cc
removal_refused path answers.Done refusal is fits = absurd cc
removal_refused path t refusal is fits = absurd fits

pub temp_refused : (path : List ℕ) (t : PlainAnswer) (refusal : Refusal) → Err refusal ≡ temp_in t → Fits (steps.CreateTemp path) t → Refuses t refusal
temp_refused path (answers.Failed fault) refusal is fits = cc
temp_refused path (answers.NoMemory b) refusal is fits = cc
temp_refused path (answers.Temp f) refusal is fits = absurd cc
temp_refused path t refusal is fits = absurd fits

pub file_refused : (path : List ℕ) (t : PlainAnswer) (refusal : Refusal) → Err refusal ≡ file_in t → Fits (steps.Open path) t → Refuses t refusal
file_refused path (answers.Failed fault) refusal is fits = cc
file_refused path (answers.NoMemory b) refusal is fits = cc
file_refused path (answers.File f) refusal is fits = absurd cc
file_refused path t refusal is fits = absurd fits

pub size_refused : (path : List ℕ) (t : PlainAnswer) (refusal : Refusal) → Err refusal ≡ length_in t → Fits (steps.Size path) t → Refuses t refusal
size_refused path (answers.Failed fault) refusal is fits = cc
size_refused path (answers.NoMemory b) refusal is fits = cc
size_refused path (answers.Length n) refusal is fits = absurd cc
size_refused path t refusal is fits = absurd fits

pub read_refused : (f : PlainFile) (max : ℕ) (t : PlainAnswer) (refusal : Refusal) → Err refusal ≡ got_in t → Fits (steps.Read f max) t → Refuses t refusal
read_refused f max (answers.Failed fault) refusal is fits = cc
read_refused f max (answers.NoMemory b) refusal is fits = cc
read_refused f max (answers.Got g bytes) refusal is fits = absurd cc
read_refused f max t refusal is fits = absurd fits
