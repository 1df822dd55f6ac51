-- Steps one after the other on a system, and on a disk in memory that mirrors it.
use Rattle.std.specs.Prelude.{◌≡◌, ◌⊎◌, ℕ, Bool, true, List, [], ◌∷◌, None, IsPermutation}
use Rattle.std_io.specs.declared.io.kind.ErrorKind.TheVariants as kind
use Rattle.cacache_core.specs.Paths.{Names}
use Rattle.cacache_store.specs.{declared.store.answer.Name.{Name}, Plain.{PlainAnswer}}
use Rattle.cacache_store.specs.declared.store.step.Step.TheVariants as steps
use Rattle.cacache_store.specs.declared.store.answer.Answer.TheVariants as answers
use Rattle.cacache_disk.specs.{declared.luck.Luck.{Luck, TheVariants.{Plain}}, Tree.{Tree}, Apply.{apply}}
use Rattle.cacache_system.specs.{declared.call.{CallItem.{CallItem}, CallResult.{CallResult, TheVariants.{Failed}}}, Seen.{NumberedStep}, CallsOf.{Runs}, AnswersOf.{Hint, first, answer_of}}
use Rattle.cacache_system_model.specs.{Machine.{Machine}, Calls.{GoesWell, OccursSomehow, EachCall}, Laws.{step_on, answer_on, outcome, LeavesFresh, IsDone}, StepLaws.{StillStands}, Listing.{ListsPlainly}, Premises.{Premise, HasPlainLaw}, Mirrors.{Mirrors, temps_after, SparesOpen}}

-- a step that was made: the machine before and after it, how its calls began, what they were, and their end
pub record StepMade : Type 0 where
  pub before : Machine
  pub after : Machine
  pub step : NumberedStep
  pub hint : Hint
  pub items : List CallItem
  pub end : CallResult

-- the open temporary files after it
abbrev pub temps_left : (Names → Bool) → StepMade → Names → Bool
temps_left temps s =
    temps_after temps (step_on s.before s.step) (answer_on s.after (answer_of s.step s.end))

-- a step has what its law asks, the disk's table does it, and it spares the open temporary files
pub record HasLaw (temps : Names → Bool) (m : Machine) (hint : Hint) (step : NumberedStep)
    : Type 0 where
  pub premise : Premise m hint step
  pub done : IsDone m step
  pub spares : SparesOpen temps m.tree (step_on m step)

-- an open temporary file that is still at its path is written
abbrev pub WritesTemp : (Names → Bool) → Machine → NumberedStep → Type 0
WritesTemp temps m (steps.Write temp more) =
    (names : Names) × (bytes : List ℕ) × StillStands m temp names bytes × (temps names ≡ true)
WritesTemp temps m step = ⊥

-- none of a step's calls fails without cause or moves only a part, so it is done or refused as the disk's table says
pub record MadePlainly (temps : Names → Bool) (s : StepMade) : Type 0 where
  pub premise : Premise s.before s.hint s.step
  pub plain : HasPlainLaw s.before s.step
  pub well : EachCall (GoesWell None) s.before s.items s.after
  pub memory : s.end ≡ Failed kind.OutOfMemory → ⊥
  pub spares : SparesOpen temps s.before.tree (step_on s.before s.step)

-- one of these laws covers a step
abbrev pub IsCovered : (Names → Bool) → StepMade → Type 0
IsCovered temps s =
    HasLaw temps s.before s.hint s.step
    ⊎ (WritesTemp temps s.before s.step ⊎ MadePlainly temps s)

-- a step is made by a run of its calls, some of which may fail
abbrev pub IsMade : (Names → Bool) → StepMade → Type 0
IsMade temps s =
    Runs (first s.hint s.step) s.items s.end
    × EachCall OccursSomehow s.before s.items s.after × IsCovered temps s

-- a disk does the step under some luck with the same answer, or the step came back, and the disk then mirrors the
-- machine; or the step left a file that it failed to use
abbrev pub OnDisk : (Names → Bool) → Tree → StepMade → Type 0
OnDisk temps d s =
    ((luck : Luck) × (new : Tree)
    × (apply d (step_on s.before s.step) luck
    ≡ outcome (answer_on s.after (answer_of s.step s.end)) new)
    × Mirrors (temps_left temps s) s.after.tree new)
    ⊎ ((answer_of s.step s.end ≡ answers.NoMemory s.step)
    × Mirrors (temps_left temps s) s.after.tree d)
    ⊎ LeavesFresh s.before s.step (answer_of s.step s.end) s.after

-- so it is of each step
abbrev pub StepsOnDisk : Type 0
StepsOnDisk =
    (temps : Names → Bool) (d : Tree) (s : StepMade) → Mirrors temps s.before.tree d
    → IsMade temps s → OnDisk temps d s

-- a folder is listed, in any order
abbrev pub IsListing : Machine → Hint → NumberedStep → Type 0
IsListing m hint (steps.ReadDir p) = ListsPlainly m.tree p
IsListing m hint step = ⊥

-- that is done by a run of its calls, some of which may fail
abbrev pub ListsFolder : StepMade → Type 0
ListsFolder s =
    Runs (first s.hint s.step) s.items s.end
    × EachCall OccursSomehow s.before s.items s.after × IsListing s.before s.hint s.step

-- each step is made where the one before it led
abbrev pub AreMade : (Names → Bool) → Machine → List StepMade → Type 0
AreMade temps m [] = Unit {0}
AreMade temps m (s ∷ made) =
    (s.before ≡ m) × (IsMade temps s ⊎ ListsFolder s) × AreMade (temps_left temps s) s.after made

-- two listings have the same names, each once, in any order
abbrev pub SameNames : PlainAnswer → PlainAnswer → Type 0
SameNames one other =
    (told given : List Name) × (one ≡ answers.Names told) × (other ≡ answers.Names given)
    × IsPermutation told given

-- A disk does each of these steps under some luck with the same answer, except those that came back, and mirrors the
-- machine at the end. It may list names in another order. Nothing is said about what follows a step that left a file
-- that it failed to use.
abbrev pub DiskDoes : (Names → Bool) → Machine → Tree → List StepMade → Type 0
DiskDoes temps m d [] = Mirrors temps m.tree d
DiskDoes temps m d (s ∷ made) =
    ((luck : Luck) × (new : Tree)
    × (apply d (step_on s.before s.step) luck
    ≡ outcome (answer_on s.after (answer_of s.step s.end)) new)
    × DiskDoes (temps_left temps s) s.after new made)
    ⊎ ((answer_of s.step s.end ≡ answers.NoMemory s.step)
    × DiskDoes (temps_left temps s) s.after d made)
    ⊎ ((told : PlainAnswer) × (apply d (step_on s.before s.step) Plain ≡ outcome told d)
    × SameNames told (answer_on s.after (answer_of s.step s.end))
    × DiskDoes (temps_left temps s) s.after d made)
    ⊎ LeavesFresh s.before s.step (answer_of s.step s.end) s.after

-- what many steps do on a system a disk that mirrors it does
abbrev pub RunsMirror : Type 0
RunsMirror =
    (temps : Names → Bool) (d : Tree) (m : Machine) (made : List StepMade) → Mirrors temps m.tree d
    → AreMade temps m made → DiskDoes temps m d made
