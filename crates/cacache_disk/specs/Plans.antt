-- What a step is about to do, against the table of steps, and why the code stops.
use Rattle.std.specs.Prelude.{◌≡◌, ℕ, Bool, List, Option, None, Some, if◌then◌else◌, take, drop, Result, Err}
use Rattle.cacache_store.specs.{declared.store.answer.Answer.TheVariants.{Failed}, Plain.{Fits, PlainStep}}
use Rattle.cacache_disk.specs.{declared.{change.{Change.{Change}, Plan.{Plan}}, luck.Luck.{Luck, TheVariants.{Plain, Fail, Take}}, node.Node.TheVariants.{File}, stop.Stop.{Stop}}, Tree.{Tree, Names, put, cut}, Apply.{plain, make_some, lengthened, is_taking, is_parted, made_up, fault_told}}
use Rattle.cacache_core.specs.declared.errors.Fault.{Fault}
use Rattle.cacache_disk.specs.declared.change.Change.TheVariants as change
use Rattle.cacache_disk.specs.declared.stop.Stop.TheVariants as stop

-- the tree with a file put at a path, if one is given
abbrev pub with_file : Option (Names × List ℕ) → Tree → Tree
with_file None t = t
with_file (Some file) t = put t file.0 (File file.1)

-- the tree with a change made
abbrev pub changed : Tree → Change → Tree
changed t change.Nothing = t
changed t (change.Put p node) = put t p node
changed t (change.Append p bytes) = lengthened t p bytes
changed t (change.Move from to bytes) = put (cut t from) to (File bytes)
changed t (change.MakeFolders p from most file) =
    with_file file (make_some t (take from p) (drop from p) most)
changed t (change.Remove p) = cut t p

-- the plan is the table's answer, which is no failure, and the table's tree
abbrev pub IsPlan : Tree → PlainStep → Option ℕ → Plan → Type 0
IsPlan t step most plan =
    (plain t step most ≡ (plan.answer, changed t plan.change))
    × (fault_told plan.answer ≡ None) × Fits step plan.answer

-- the step fails as the table says; memory may be refused anywhere
abbrev pub Refuses : Tree → PlainStep → Option ℕ → Stop → Type 0
Refuses t step most (stop.Fault fault) = plain t step most ≡ (Failed fault, t)
Refuses t step most stop.OutOfMemory = Unit {0}

-- how many of its bytes or folders a step may do
abbrev pub most_of : PlainStep → Luck → Option ℕ
most_of step Plain = None
most_of step (Take most) = if is_taking step then Some most else None
most_of step (Fail fault part) = if is_parted step then part else None

-- the change, if a part of it is left done
abbrev pub left_over : Bool → Option ℕ → Change → Change
left_over parted None whole = change.Nothing
left_over parted (Some part) whole = if parted then whole else change.Nothing

-- what becomes of a plan under luck
abbrev pub with_luck : PlainStep → Luck → Plan → Plan
with_luck step Plain plan = plan
with_luck step (Take most) plan = plan
with_luck step (Fail fault part) plan = record {
  answer = Failed (made_up fault);
  change = left_over (is_parted step) part plan.change;
}

-- ---- why the code stops, against what the definitions say

-- a fault is the one that is defined; memory may be refused anywhere
abbrev pub Stops : {A : Type 0} → Stop → Result A Fault → Type 0
Stops (stop.Fault fault) defined = defined ≡ Err fault
Stops stop.OutOfMemory defined = Unit {0}

-- a fault is the one that is found; memory may be refused anywhere
abbrev pub Blocks : Stop → Option Fault → Type 0
Blocks (stop.Fault fault) found = found ≡ Some fault
Blocks stop.OutOfMemory found = Unit {0}
