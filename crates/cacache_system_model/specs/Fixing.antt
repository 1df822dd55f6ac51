-- What the syncs of many steps fix on a system, and what a loss of power then leaves there and on a disk in memory.
use Rattle.std.specs.{Prelude.{◌≡◌, ◌⊎◌, ◌-◌, ◌||◌, Bool, true, false, List, [], ◌∷◌, Option, None, Some, if◌then◌else◌, length, take}, List.{AllByRecursion}}
use Rattle.cacache_core.specs.{declared.errors.Fault.{Fault}, Paths.{Names}}
use Rattle.cacache_store.specs.{declared.store.step.Step.TheVariants.{Copy}, Plain.{PlainStep, PlainAnswer}}
use Rattle.cacache_store.specs.declared.store.answer.Answer.TheVariants as answers
use Rattle.cacache_disk.specs.{declared.node.Node.{Node, TheVariants.{Folder, File}}, Tree.{same_path, is_child}, Apply.{apply}}
use Rattle.cacache_value.specs.Acts.{Move}
use Rattle.cacache_loss.specs.{Fixing.{Fixed, synced, is_sync, changed, all_fixed}, Loss.{Loss, lost_at}, Moments.{Moment, after, lost_then, EachMove}, ChangedNames.{opening}}
use Rattle.cacache_system.specs.{Seen.{NumberedStep}, AnswersOf.{answer_of}}
use Rattle.cacache_system_model.specs.{Machine.{Machine, SyncedNode, in_doubt}, Laws.{step_on, answer_on, LeavesFresh}, Mirrors.{hollow, Mirrors}, Chains.{StepMade, temps_left, AreMade, SameNames}}

-- ---- what a step fixes on a machine

-- what is fixed once a file's bytes, or the names in a folder, are synced
abbrev pub with_synced : Names → Option Node → Fixed → Fixed
with_synced names (Some (File bytes)) fixed = record {
  files = λ path. if same_path path names then synced bytes else fixed.files path;
  names = fixed.names;
}
with_synced names (Some Folder) fixed = record {
  files = fixed.files;
  names = λ path. if is_child names path then None else fixed.names path;
}
with_synced names here fixed = fixed

-- what is fixed after these syncs, the latest first
abbrev pub after_syncs : List SyncedNode → Fixed → Fixed
after_syncs [] fixed = fixed
after_syncs (node ∷ nodes) fixed = with_synced node.0 node.1 (after_syncs nodes fixed)

-- what was synced between these two machines, the latest first
abbrev pub synced_since : Machine → Machine → List SyncedNode
synced_since before later = take (length later.synced - length before.synced) later.synced

-- the step that was made, with its handles as they are on the machine
abbrev pub step_made : StepMade → PlainStep
step_made s = step_on s.before s.step

-- its answer, with the handles as they are on the machine
abbrev pub answer_made : StepMade → PlainAnswer
answer_made s = answer_on s.after (answer_of s.step s.end)

-- A sync fixes what its calls synced. Any other step fixes nothing: what it changes in the machine's tree is no longer fixed,
-- and a file that it moves stays as far fixed.
abbrev pub fixed_by : Fixed → StepMade → Fixed
fixed_by fixed s =
    if is_sync (step_made s) then after_syncs (synced_since s.before s.after) fixed
    else changed fixed s.before.tree s.after.tree (step_made s) (answer_made s)

-- ---- many steps

-- no temporary file is open
abbrev pub no_temps : Names → Bool
no_temps path = false

-- the machine after these steps
abbrev pub machine_after : Machine → List StepMade → Machine
machine_after m [] = m
machine_after m (s ∷ made) = machine_after s.after made

-- what is fixed on it
abbrev pub fixed_after_all : Fixed → List StepMade → Fixed
fixed_after_all fixed [] = fixed
fixed_after_all fixed (s ∷ made) = fixed_after_all (fixed_by fixed s) made

-- its open temporary files
abbrev pub temps_after_all : (Names → Bool) → List StepMade → Names → Bool
temps_after_all temps [] = temps
temps_after_all temps (s ∷ made) = temps_after_all (temps_left temps s) made

-- whether a temporary file was open at a path at some time
abbrev pub was_temp : (Names → Bool) → List StepMade → Names → Bool
was_temp temps [] path = temps path
was_temp temps (s ∷ made) path = temps path || was_temp (temps_left temps s) made path

-- A step copies no file. A system puts a fresh file in the place of a copy's target, the disk's table writes the target.
abbrev pub CopiesNone : NumberedStep → Type 0
CopiesNone (Copy from to) = ⊥
CopiesNone step = Unit {0}

-- no sync failed before
abbrev pub NoDoubt : Machine → Type 0
NoDoubt m = in_doubt m.synced ≡ false

-- A step copies no file, and leaves none that it failed to open. No sync failed before it.
abbrev pub LosesAsTold : StepMade → Type 0
LosesAsTold s =
    CopiesNone s.step × NoDoubt s.before
    × (LeavesFresh s.before s.step (answer_of s.step s.end) s.after → ⊥)

-- ---- the same steps on a disk

-- A disk's move is this step with its answer, or with a failure if the step came back. A listing's names may be in another
-- order.
abbrev pub IsMoveOf : StepMade → Move → Type 0
IsMoveOf s move =
    (move.step ≡ step_made s)
    × ((move.answer ≡ answer_made s)
    ⊎ ((answer_of s.step s.end ≡ answers.NoMemory s.step)
    × (fault : Fault) × (move.answer ≡ answers.Failed fault))
    ⊎ SameNames move.answer (answer_made s))

-- one for each step, in their order
abbrev pub AreMovesOf : List StepMade → List Move → Type 0
AreMovesOf [] moves = moves ≡ []
AreMovesOf (s ∷ made) moves =
    (move : Move) × (more : List Move) × (moves ≡ move ∷ more) × IsMoveOf s move
    × AreMovesOf made more

-- the disk answers a move so
abbrev pub IsAnswered : Moment → Move → Type 0
IsAnswered now move = move.answer ≡ (apply now.tree move.step move.luck).0

-- the same is left of both, but a file may have other bytes where a temporary file was open
abbrev pub LeavesSame : Bool → Option Node → Option Node → Type 0
LeavesSame true on_system on_disk = hollow on_disk ≡ hollow on_system
LeavesSame false on_system on_disk = on_disk ≡ on_system

-- A disk with the same tree does the steps with the same answers. Then each loss of power leaves the same of both.
pub record LosesSame (m : Machine) (made : List StepMade) : Type 0 where
  pub moves : List Move
  pub of_steps : AreMovesOf made moves
  pub answered : EachMove IsAnswered (opening m.tree) moves
  pub mirrors : Mirrors (temps_after_all no_temps made) (machine_after m made).tree
      (after (opening m.tree) moves).tree
  pub losses : (home : Option Names) (loss : Loss) (path : Names)
      → LeavesSame (was_temp no_temps made path)
      (lost_at home (machine_after m made).tree (fixed_after_all (all_fixed m.tree) made) loss path)
      (lost_then home (after (opening m.tree) moves) loss path)

-- So it is of any steps without copies, if only the last sync fails, from a machine on which all is fixed and no temporary
-- file is open.
abbrev pub LossesMirror : Type 0
LossesMirror =
    (m : Machine) (made : List StepMade) → AreMade no_temps m made
    → AllByRecursion LosesAsTold made → LosesSame m made
