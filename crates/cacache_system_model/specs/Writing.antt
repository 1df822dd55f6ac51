-- Laws on writes and copies.
use Rattle.std.specs.Prelude.{◌≡◌, ◌⊎◌, ◌++◌, ◌∷◌, [], ℕ, List, None, take}
use Rattle.cacache_core.specs.Paths.{Names}
use Rattle.cacache_store.specs.declared.store.step.Step.TheVariants as steps
use Rattle.cacache_store.specs.declared.store.answer.Answer.TheVariants as answers
use Rattle.cacache_disk.specs.{declared.luck.Luck.{Luck, TheVariants.{Plain}}, Tree.{look}, Apply.{apply, lengthened}}
use Rattle.cacache_system.specs.{declared.call.CallResult.{CallResult}, CallsOf.{fresh_name}, Seen.{NumberedTemp}, AnswersOf.{Hint, first, answer_of}}
use Rattle.cacache_system_model.specs.{Machine.{Machine, EndsInName}, Calls.{GoesWell, OccursSomehow}, Laws.{step_on, outcome, led_to, Leads, GoesPlainly, MayBreak}, StepLaws.{StillStands}}

-- a temporary file takes all the bytes: the answer is that of plain luck, and the file alone grew
abbrev pub WritesAll : Machine → NumberedTemp → Names → List ℕ → CallResult → Machine → Type 0
WritesAll m temp names more end after =
    outcome (apply m.tree (step_on m (steps.Write temp more)) Plain).0
    (lengthened m.tree names more)
    ≡ led_to (steps.Write temp more) end after

-- it takes a part of them: the answer is that of some luck, or the step comes back
abbrev pub WritesSome : Machine → NumberedTemp → Names → List ℕ → CallResult → Machine → Type 0
WritesSome m temp names more end after =
    ((luck : Luck) × (part : ℕ)
    × (outcome (apply m.tree (step_on m (steps.Write temp more)) luck).0
    (lengthened m.tree names (take part more))
    ≡ led_to (steps.Write temp more) end after))
    ⊎ ((answer_of (steps.Write temp more) end ≡ answers.NoMemory (steps.Write temp more))
    × (after.tree ≡ m.tree))

-- a temporary file is written, whether or not its calls fail without cause
pub record Writes (m : Machine) (hint : Hint) (temp : NumberedTemp) (names : Names)
    (more : List ℕ) : Type 0 where
  pub plainly : Leads (GoesWell None) (first hint (steps.Write temp more)) m
      (WritesAll m temp names more)
  pub breaking : Leads OccursSomehow (first hint (steps.Write temp more)) m
      (WritesSome m temp names more)

-- a temporary file that is at its path
abbrev pub WriteAgrees : Type 0
WriteAgrees =
    (m : Machine) (hint : Hint) (temp : NumberedTemp) (names : Names) (bytes more : List ℕ)
    → StillStands m temp names bytes → Writes m hint temp names more

-- what has one number on one device is one file, or files of the same bytes
abbrev pub TellsFilesApart : Machine → Type 0
TellsFilesApart m =
    (a b : Names) → m.inodes a ≡ m.inodes b → look m.tree a ≡ look m.tree b

-- nothing is under a name that a copy gives its fresh file
abbrev pub HasNoFresh : Machine → Type 0
HasNoFresh m = (above : Names) (number : ℕ) → look m.tree (above ++ fresh_name number ∷ []) ≡ None

-- what a copy asks, whether or not its calls fail without cause
pub record CanCopy (m : Machine) (to : List ℕ) : Type 0 where
  pub apart : TellsFilesApart m
  pub ends : EndsInName to

-- a file is copied, whether or not its calls fail without cause
pub record Copies (m : Machine) (hint : Hint) (from to : List ℕ) : Type 0 where
  pub plainly : HasNoFresh m → GoesPlainly m hint (steps.Copy from to)
  pub breaking : MayBreak m hint (steps.Copy from to)

-- a file is copied, if numbers tell files apart and the target ends in a name
abbrev pub CopyAgrees : Type 0
CopyAgrees =
    (m : Machine) (hint : Hint) (from to : List ℕ) → CanCopy m to → Copies m hint from to
