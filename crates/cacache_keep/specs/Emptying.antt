-- How folders that are empty are removed, over any store.
use Rattle.std.specs.Prelude.{◌≡◌, ◌⊎◌, ℕ, List, Bool, true, false, Option}
use Rattle.cacache_core.specs.declared.errors.Fault.{Fault}
use Rattle.cacache_store.specs.declared.store.answer.Answer.TheVariants as answers
use Rattle.cacache_store.specs.declared.store.log.LogItem.{LogItem}
use Rattle.cacache_store.specs.declared.store.step.Step.TheVariants as steps
use Rattle.cacache_calls.specs.SingleSteps.{Does}

-- the folder was removed, or its removal failed or found no memory
abbrev pub Empties : List ℕ → Bool → Option (List LogItem) → Option (List LogItem) → Type 0
Empties folder true old new = Does (steps.RemoveDir folder) answers.Done old new
Empties folder false old new =
    (new ≡ old) ⊎ ((fault : Fault) × Does (steps.RemoveDir folder) (answers.Failed fault) old new)

-- so it was with the lower folder, and with the upper one if the lower was removed
abbrev pub EmptiesBoth :
    List ℕ → List ℕ → Option (List LogItem) → Option (List LogItem) → Type 0
EmptiesBoth lower upper old new =
    Empties lower false old new
    ⊎ ((cut : Option (List LogItem)) × Empties lower true old cut
    × (gone : Bool) × Empties upper gone cut new)
