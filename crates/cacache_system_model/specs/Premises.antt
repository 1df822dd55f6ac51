-- What each step asks of the machine for its law.
use Rattle.std.specs.Prelude.{◌≡◌, ◌⊎◌, ◌≤◌, ℕ, List, Ok}
use Rattle.cacache_core.specs.Paths.{Names}
use Rattle.cacache_store.specs.declared.store.step.Step.TheVariants.{MakeDirs, Write, Persist, Read, Copy, Reflink, HardLink, ReadDir, SyncTemp, SyncDir}
use Rattle.cacache_disk.specs.{declared.node.Node.{Node}, LedTo.{linked}, Tree.{Rooted}}
use Rattle.cacache_system.specs.{Seen.{NumberedFile, NumberedTemp, NumberedStep}, AnswersOf.{Hint}}
use Rattle.cacache_system_model.specs.{Machine.{OpenFile, Machine}, Laws.{GoesPlainly, MayBreak}, StepLaws.{StillStands, StaysOpen, HasNoLink, MayReplace, EndsInNoLink}, Writing.{HasNoFresh, CanCopy}, Listing.{ListsPlainly, IsAbsent, GivesInOrder}}

-- a temporary file is still at its path
abbrev pub IsStill : Machine → NumberedTemp → Type 0
IsStill m temp = (names : Names) × (bytes : List ℕ) × StillStands m temp names bytes

-- a number is that of an open file
abbrev pub IsOpen : Machine → NumberedFile → Type 0
IsOpen m file = (found : OpenFile) × (bytes : List ℕ) × StaysOpen m file found bytes

-- a file or link is at a path
abbrev pub IsLinked : Machine → List ℕ → Type 0
IsLinked m path = (node : Node) × (linked m.tree path ≡ Ok node)

-- What a step asks. A write has a law of its own: the tree changes under it.
abbrev pub Premise : Machine → Hint → NumberedStep → Type 0
Premise m hint (MakeDirs p) = Rooted m.tree × HasNoLink m.tree p
Premise m hint (Write t bytes) = ⊥
Premise m hint (Persist t p) = IsStill m t × MayReplace m.tree hint p
Premise m hint (Read f max) = IsOpen m f
Premise m hint (Copy p q) = CanCopy m q
Premise m hint (ReadDir p) = IsAbsent m.tree p ⊎ (ListsPlainly m.tree p × GivesInOrder m p)
Premise m hint (SyncTemp t) = IsStill m t
Premise m hint (SyncDir p) = EndsInNoLink m.tree p
Premise m hint step = Unit {0}

-- each step that the disk's table does is as under some luck, whichever of its calls fail without cause
abbrev pub EachMayBreak : Type 0
EachMayBreak =
    (m : Machine) (hint : Hint) (step : NumberedStep) → Premise m hint step → MayBreak m hint step

-- What a step also asks for the law on what it answers if no call fails without cause, whether or not the table refuses it.
-- A system refuses each reflink, so what it says of one is never what the table says.
abbrev pub HasPlainLaw : Machine → NumberedStep → Type 0
HasPlainLaw m (Read f max) = (max ≤ 131072) × (max ≤ f.left)
HasPlainLaw m (Copy p q) = HasNoFresh m
HasPlainLaw m (Reflink p q) = ⊥
HasPlainLaw m (HardLink p q) = IsLinked m p
HasPlainLaw m (ReadDir p) = IsAbsent m.tree p
HasPlainLaw m step = Unit {0}

-- each such step is as under plain luck, if none of its calls fails without cause
abbrev pub EachGoesPlainly : Type 0
EachGoesPlainly =
    (m : Machine) (hint : Hint) (step : NumberedStep) → Premise m hint step
    → HasPlainLaw m step → GoesPlainly m hint step
