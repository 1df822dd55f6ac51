-- Open files stay open through the system calls of a step.
use Rattle.std.specs.Prelude.{◌≡◌, ℕ, false, List, Some, Ok}
use Rattle.cacache_core.specs.Paths.{Names, names_of}
use Rattle.cacache_store.specs.declared.store.step.Step.TheVariants as steps
use Rattle.cacache_disk.specs.{declared.node.Node.TheVariants.{Folder, File}, Tree.{Tree, look, same_path}, LedTo.{writable}}
use Rattle.cacache_loss.specs.Fixing.{is_at}
use Rattle.cacache_system.specs.{declared.call.{CallItem.{CallItem}, CallResult.{CallResult}}, Seen.{NumberedStep}, CallsOf.{Runs}, AnswersOf.{Hint, first}}
use Rattle.cacache_system_model.specs.{Machine.{Machine}, Calls.{OccursSomehow, EachCall}, StepLaws.{IsOpenAt}, Listing.{CanList}, Premises.{IsStill, IsOpen}}

-- each file that is open at these names stays open there
abbrev pub KeepsOpen : Names → Machine → Machine → Type 0
KeepsOpen names m after = (number : ℕ) → IsOpenAt m number names → IsOpenAt after number names

-- a path doesn't name this
abbrev pub Avoids : Names → List ℕ → Type 0
Avoids names path = is_at (names_of path) names ≡ false

-- a file is at these names, and a copy's target is another
pub record IsApart (names : Names) (t : Tree) (to : List ℕ) : Type 0 where
  pub bytes : List ℕ
  pub stands : look t names ≡ Some (File bytes)
  pub avoids : Avoids names to
  pub leads : (end : Names) → writable t to ≡ Ok end → same_path names end ≡ false

-- a step neither moves nor removes what is at these names, and puts nothing there; its temporary file is still at its path,
-- what it reads is open, and its folder can be listed
abbrev pub StillStores : Names → Machine → NumberedStep → Type 0
StillStores names m (steps.Write t bytes) = IsStill m t
StillStores names m (steps.Persist t p) = IsStill m t × Avoids names t.path × Avoids names p
StillStores names m (steps.Read f max) = IsOpen m f
StillStores names m (steps.Copy p q) = IsApart names m.tree q
StillStores names m (steps.ReadDir p) = CanList m p
StillStores names m (steps.RemoveFile p) = Avoids names p
StillStores names m (steps.RemoveDir p) = look m.tree names ≡ Some Folder → ⊥
StillStores names m (steps.SyncTemp t) = IsStill m t
StillStores names m step = Unit {0}

-- each run of such a step keeps what is there open, whichever of its calls fail without cause
abbrev pub RunsKeepOpen : Type 0
RunsKeepOpen =
    (names : Names) (m after : Machine) (hint : Hint) (step : NumberedStep) (items : List CallItem)
    (end : CallResult) → StillStores names m step → Runs (first hint step) items end
    → EachCall OccursSomehow m items after → KeepsOpen names m after
