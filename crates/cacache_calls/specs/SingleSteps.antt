-- A single step of a call, and why it returned nothing.
use Rattle.std.specs.Prelude.{◌≡◌, ◌⊎◌, List, [], ◌∷◌, Option}
use Rattle.cacache_core.specs.declared.errors.{Error.{Error, TheVariants.{IoError, OutOfMemory}}, Fault.{Fault}}
use Rattle.cacache_store.specs.declared.store.answer.Answer.TheVariants as answers
use Rattle.cacache_store.specs.{declared.store.log.LogItem.{LogItem}, Plain.{PlainStep, PlainAnswer}}
use Rattle.cacache_calls.specs.Runs.{Gains}

-- the log gained this step with this answer
abbrev pub Does : PlainStep → PlainAnswer → Option (List LogItem) → Option (List LogItem) → Type 0
Does step answer old new = Gains old new ((step, answer) ∷ [])

-- the step failed with this fault, or memory was refused before or after it
abbrev pub FailsAt : PlainStep → Error → Option (List LogItem) → Option (List LogItem) → Type 0
FailsAt step (IoError fault message) old new = Does step (answers.Failed fault) old new
FailsAt step OutOfMemory old new =
    (new ≡ old) ⊎ ((fault : Fault) × Does step (answers.Failed fault) old new)
FailsAt step e old new = ⊥
