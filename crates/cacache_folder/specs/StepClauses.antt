-- What steps of real folders answer, in the words of their clauses; why one failed, and which may change something and then fail.
use Rattle.std.specs.{Prelude.{◌≡◌, Bool, true, false, ℕ, List, Option, Result, Some, IsSomeAnd, ⊤}, declared.io.ErrorKind.{ErrorKind}}
use Rattle.cacache_store.specs.{declared.store.{step.Step.{TheVariants.{MakeDirs, CreateTemp, Append, Copy, SyncTemp, SyncFile, SyncDir}, Step}, answer.Answer.{TheVariants.{NoMemory, Failed}, Answer}}, Plain.{PlainStep, PlainAnswer, plain_step, plain_answer, Fits}}
use Rattle.std_io.specs.declared.io.error.Error.{Error}
use Rattle.cacache_system.specs.{declared.call.{CallItem.{CallItem}, CallResult.{CallResult}}, Seen.{NumberedStep, NumberedAnswer}, AnswersOf.{StepRuns, answer_of}}
use Rattle.cacache_folder.specs.{declared.folder.{opened.SystemFile.{SystemFile}, temp.SystemTemp.{SystemTemp}}, FolderHandles.{seen_file, seen_temp}, FolderNumbers.{numbered, answered, answered_or, value_or, goes_by_path}}
use Rattle.cacache_core.specs.Errors.{fault_of}

-- some of the folders, the empty file, the file or a part of its line, or a part of the copy may be
-- there, and what was to be synced may be lost
abbrev pub may_do_a_part : PlainStep → Bool
may_do_a_part (MakeDirs p) = true
may_do_a_part (CreateTemp p) = true
may_do_a_part (Append p b) = true
may_do_a_part (Copy p q) = true
may_do_a_part (SyncTemp t) = true
may_do_a_part (SyncFile p) = true
may_do_a_part (SyncDir p) = true
may_do_a_part _ = false

-- a step that may have done a part never comes back as one that did nothing
abbrev pub HandsBackWhole : PlainStep → PlainAnswer → Type 0
HandsBackWhole a (NoMemory b) = may_do_a_part a ≡ false
HandsBackWhole a _ = Unit {0}

-- ---- what steps of real folders answer, in the words of their clauses

-- a step's value is answered at the end of a run of its calls
abbrev pub ValueRuns : {A : Type 0} → NumberedStep → (A → NumberedAnswer) → Result A Error
    → Option (List CallItem) → Option (List CallItem) → Type 0
ValueRuns step give result old new = StepRuns step (value_or give step result) old new

module _ {Y F D : Type 0} where
  -- an answer fits its step
  abbrev pub AnswerFits : Step (SystemFile Y F D) (SystemTemp Y F D)
      → Answer (SystemFile Y F D) (SystemTemp Y F D) → Type 0
  AnswerFits step answer =
      Fits (plain_step seen_file seen_temp step) (plain_answer seen_file seen_temp answer)

  -- a step that may have done a part doesn't come back
  abbrev pub AnswersWhole : Step (SystemFile Y F D) (SystemTemp Y F D)
      → Answer (SystemFile Y F D) (SystemTemp Y F D) → Type 0
  AnswersWhole step answer =
      HandsBackWhole (plain_step seen_file seen_temp step)
      (plain_answer seen_file seen_temp answer)

  -- a step answers what its calls end with
  abbrev pub AnswersEnd : (F → ℕ) → Step (SystemFile Y F D) (SystemTemp Y F D) → CallResult
      → Answer (SystemFile Y F D) (SystemTemp Y F D) → Type 0
  AnswersEnd number step end answer =
      answered number answer ≡ answer_of (numbered number step) end

  -- a step is answered at the end of a run of its calls
  abbrev pub AnswersRun : (F → ℕ) → Step (SystemFile Y F D) (SystemTemp Y F D)
      → Answer (SystemFile Y F D) (SystemTemp Y F D) → Option (List CallItem)
      → Option (List CallItem) → Type 0
  AnswersRun number step answer old new =
      StepRuns (numbered number step) (answered number answer) old new

  -- so is one that takes no file and gives none, or it failed
  abbrev pub RunsByPath : (F → ℕ) → Step (SystemFile Y F D) (SystemTemp Y F D)
      → Result (Answer (SystemFile Y F D) (SystemTemp Y F D)) Error → Option (List CallItem)
      → Option (List CallItem) → Type 0
  RunsByPath number step result old new =
      goes_by_path (numbered number step) ≡ true
      → StepRuns (numbered number step) (answered_or number (numbered number step) result) old new

-- ---- why the system failed a step

-- a failed step leaves the system's kind of error, and answers its fault; another keeps the one before
abbrev pub Explains : Option ErrorKind → Option ErrorKind → PlainAnswer → Type 0
Explains old new (Failed fault) = IsSomeAnd new (λ kind. fault ≡ fault_of kind)
Explains old new answer = new ≡ old

-- a failed step leaves this kind of error
abbrev pub LeavesReason : ErrorKind → Option ErrorKind → PlainAnswer → Type 0
LeavesReason kind new (Failed fault) = new ≡ Some kind
LeavesReason kind new answer = ⊤
