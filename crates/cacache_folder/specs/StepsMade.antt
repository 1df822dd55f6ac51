-- The steps that a store of real folders made, their log, and the system's calls that they and each part of the log took.
use Rattle.std.specs.{Prelude.{◌≡◌, ℕ, if◌then◌else◌, List, [], ◌∷◌, Option, None, Some, ◌++◌}, List.{flat_map}}
use Rattle.cacache_store.specs.{declared.store.{step.Step.{Step}, answer.Answer.{Answer}, log.LogItem.{LogItem, TheVariants.{Made}}}, Plain.{PlainStep, PlainAnswer, plain_step, plain_answer, is_no_memory}}
use Rattle.cacache_system.specs.{declared.call.CallItem.{CallItem}, AnswersOf.{StepRuns}}
use Rattle.cacache_folder.specs.{declared.folder.{opened.SystemFile.{SystemFile}, temp.SystemTemp.{SystemTemp}}, FolderHandles.{seen_file, seen_temp}, FolderNumbers.{numbered, answered}}

-- a step and its answer
abbrev pub StepMade : Type 0 → Type 0 → Type 0 → Type 0
StepMade Y F D =
    Step (SystemFile Y F D) (SystemTemp Y F D) × Answer (SystemFile Y F D) (SystemTemp Y F D)

-- what a log gains: this step and its answer, or nothing if memory was refused
abbrev pub gained : PlainStep → PlainAnswer → List LogItem
gained step answer = if is_no_memory answer then [] else Made step answer ∷ []

-- the same, of a step on files of a system
abbrev pub items_of : {Y F D : Type 0} → StepMade Y F D → List LogItem
items_of made =
    gained (plain_step seen_file seen_temp made.0) (plain_answer seen_file seen_temp made.1)

-- the log of a store with these steps, unless its system had made calls when it began
abbrev pub log_of : {Y F D : Type 0} → Option (List CallItem) → List (StepMade Y F D)
    → Option (List LogItem)
log_of None steps = Some (flat_map items_of steps)
log_of (Some []) steps = Some (flat_map items_of steps)
log_of (Some (call ∷ calls)) steps = None

-- a log of calls that is kept gained runs of these steps, one after another
abbrev pub StepsRun : {Y F D : Type 0} → (F → ℕ) → List (StepMade Y F D)
    → Option (List CallItem) → Option (List CallItem) → Type 0
StepsRun number [] old new = new ≡ old
StepsRun number (made ∷ later) old new =
    (between : Option (List CallItem))
    × StepRuns (numbered number made.0) (answered number made.1) old between
    × StepsRun number later between new

-- ---- which of its system's calls a store of real folders made in each part of its log

-- The steps that made the first part of a log, and those that made the rest. The system's calls are runs of the first
-- ones, and then runs of the others. If the first part is empty, there are no first ones.
pub record CallsInParts {Y F D : Type 0} (number : F → ℕ) (steps : List (StepMade Y F D))
    (began new : Option (List CallItem)) (log more : List LogItem) : Type 0 where
  pub earlier : List (StepMade Y F D)
  pub later : List (StepMade Y F D)
  pub between : Option (List CallItem)
  pub parts : steps ≡ earlier ++ later
  pub logged : flat_map items_of earlier ≡ log
  pub gained : flat_map items_of later ≡ more
  pub before : StepsRun number earlier began between
  pub after : StepsRun number later between new
  pub none : log ≡ [] → earlier ≡ []

-- however the log is cut in two, so are the steps and the system's calls
abbrev pub CallsByLog : {Y F D : Type 0} → (F → ℕ) → List (StepMade Y F D) → Option (List CallItem)
    → Option (List CallItem) → Type 0
CallsByLog number steps began new =
    (log more : List LogItem) → log_of began steps ≡ Some (log ++ more)
    → ∥ CallsInParts number steps began new log more ∥₁
