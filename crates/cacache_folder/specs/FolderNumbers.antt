-- The steps and answers of real folders with their files by number, as the system's calls have them.
use Rattle.std.specs.Prelude.{ℕ, Bool, true, false, Result, Ok, Err}
use Rattle.std_io.specs.{declared.io.error.Error.{Error}, IoError.{error_kind}}
use Rattle.cacache_store.specs.declared.store.{step.Step.{Step, TheVariants.{CreateTemp, Write, Persist, Open, Read, SyncTemp}}, answer.Answer.{Answer}}
use Rattle.cacache_system.specs.{Seen.{NumberedFile, NumberedTemp, NumberedStep, NumberedAnswer, step_as, answer_as}, AnswersOf.{failed_with}}
use Rattle.cacache_folder.specs.declared.folder.{opened.SystemFile.{SystemFile}, temp.SystemTemp.{SystemTemp}}

-- an open file
abbrev pub numbered_file : {Y F D : Type 0} → (F → ℕ) → SystemFile Y F D → NumberedFile
numbered_file number f = record { number = number f.file; left = f.left }

-- a temporary file
abbrev pub numbered_temp : {Y F D : Type 0} → (F → ℕ) → SystemTemp Y F D → NumberedTemp
numbered_temp number t = record { number = number t.file; path = t.path }

-- a step
abbrev pub numbered : {Y F D : Type 0} → (F → ℕ) → Step (SystemFile Y F D) (SystemTemp Y F D)
    → NumberedStep
numbered number step = step_as (numbered_file number) (numbered_temp number) step

-- an answer
abbrev pub answered : {Y F D : Type 0} → (F → ℕ) → Answer (SystemFile Y F D) (SystemTemp Y F D)
    → NumberedAnswer
answered number answer = answer_as (numbered_file number) (numbered_temp number) answer

-- an answer, or the failure of this step
abbrev pub answered_or : {Y F D : Type 0} → (F → ℕ) → NumberedStep
    → Result (Answer (SystemFile Y F D) (SystemTemp Y F D)) Error → NumberedAnswer
answered_or number step (Ok answer) = answered number answer
answered_or number step (Err error) = failed_with step (error_kind error)

-- what a step answers if it gave this value, or its failure
abbrev pub value_or : {A : Type 0} → (A → NumberedAnswer) → NumberedStep → Result A Error
    → NumberedAnswer
value_or give step (Ok value) = give value
value_or give step (Err error) = failed_with step (error_kind error)

-- the step takes no file and gives none
abbrev pub goes_by_path : NumberedStep → Bool
goes_by_path (CreateTemp p) = false
goes_by_path (Write t b) = false
goes_by_path (Persist t p) = false
goes_by_path (Open p) = false
goes_by_path (Read f max) = false
goes_by_path (SyncTemp t) = false
goes_by_path _ = true
