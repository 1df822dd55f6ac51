-- That the calls of a step answer and leave what the disk's table of steps says, and that the model can be met.
use Rattle.std.specs.{Prelude.{◌≡◌, ◌⊎◌, ◌++◌, ◌∷◌, ℕ, List, [], None, Ok, option_map, length, drop, Option, IsPermutation, IfOk}, Option.{unwrap_or}}
use Rattle.cacache_store.specs.{declared.store.plain.{PlainTemp.{PlainTemp}, PlainFile.{PlainFile}}, Plain.{PlainStep, PlainAnswer}}
use Rattle.cacache_core.specs.{declared.errors.Fault.{Fault}, Paths.{Names}}
use Rattle.cacache_disk.specs.{declared.{luck.Luck.{Luck, TheVariants.{Plain}}, node.Node.TheVariants.{File}}, Tree.{Tree, look, put, bytes_of, listing}, LedTo.{free, found, standing}, Apply.{apply, fault_told}}
use Rattle.cacache_system.specs.{declared.call.{SystemCall.{SystemCall, TheVariants.{OpenFolder, RealPath}}, CallItem.{CallItem}, CallResult.{CallResult, TheVariants.{Failed}}}, Seen.{NumberedFile, NumberedTemp, NumberedStep, NumberedAnswer, step_as, answer_as}, CallsOf.{Stage, Runs, fresh_name}, AnswersOf.{Hint, first, answer_of}}
use Rattle.cacache_system_model.specs.{Machine.{OpenFile, node_of, Machine, with_empty, IsUnused, Spells}, Calls.{GoesWell, OccursSomehow, EachCall}}
use Rattle.std_io.specs.declared.io.kind.ErrorKind.TheVariants as kind
use Rattle.cacache_store.specs.declared.store.answer.Answer.TheVariants as answers
use Rattle.cacache_store.specs.declared.store.step.Step.TheVariants as steps

-- ---- handles on a machine

-- the bytes of an open file
abbrev pub bytes_in : Machine → OpenFile → List ℕ
bytes_in m file = bytes_of (node_of m.tree file.place)

-- a temporary file has these bytes
abbrev pub temp_on : Machine → NumberedTemp → PlainTemp
temp_on m temp = record {
  path = temp.path;
  bytes = option_map (bytes_in m) (m.files temp.number);
}

-- the bytes that an open file has left to read
abbrev pub left_in : Machine → OpenFile → List ℕ
left_in m file = drop file.read (bytes_in m file)

-- an open file has those bytes left
abbrev pub file_on : Machine → NumberedFile → PlainFile
file_on m file = record {
  left = length (unwrap_or (option_map (left_in m) (m.files file.number)) []);
  bytes = option_map (left_in m) (m.files file.number);
}

-- a step with its handles as they are on a machine
abbrev pub step_on : Machine → NumberedStep → PlainStep
step_on m step = step_as (file_on m) (temp_on m) step

-- an answer with its handles as they are on a machine
abbrev pub answer_on : Machine → NumberedAnswer → PlainAnswer
answer_on m answer = answer_as (file_on m) (temp_on m) answer

-- an answer and a tree
abbrev pub outcome : PlainAnswer → Tree → PlainAnswer × Tree
outcome answer t = (answer, t)

-- what a step answers and leaves, if its calls end so on a machine
abbrev pub led_to : NumberedStep → CallResult → Machine → PlainAnswer × Tree
led_to step end m = outcome (answer_on m (answer_of step end)) m.tree

-- ---- runs

-- this holds wherever calls from a stage lead that happen in this way
abbrev pub Leads : (Machine → SystemCall → CallResult → Machine → Type 0) → Stage → Machine
    → (CallResult → Machine → Type 0) → Type 0
Leads Happens s m Holds =
    (items : List CallItem) (end : CallResult) (after : Machine) → Runs s items end
    → EachCall Happens m items after → Holds end after

-- if memory isn't refused, it is as under plain luck
abbrev pub IsPlain : Machine → NumberedStep → CallResult → Machine → Type 0
IsPlain m step end after =
    (end ≡ Failed kind.OutOfMemory → ⊥)
    → apply m.tree (step_on m step) Plain ≡ led_to step end after

-- A step leaves a file that it failed to use: a copy its fresh file, which can't be removed either; or a temporary file
-- was made, but can't be opened.
abbrev pub LeavesFresh : Machine → NumberedStep → NumberedAnswer → Machine → Type 0
LeavesFresh m (steps.Copy from to) answer after =
    (luck : Luck) × (above : Names) × (number : ℕ) × (bytes : List ℕ)
    × (look m.tree (above ++ fresh_name number ∷ []) ≡ None)
    × (apply m.tree (steps.Copy from to) luck ≡ outcome (answer_on after answer) m.tree)
    × (after.tree ≡ put m.tree (above ++ fresh_name number ∷ []) (File bytes))
LeavesFresh m (steps.CreateTemp path) answer after =
    (names : Names) × (free m.tree path ≡ Ok names) × (after.tree ≡ with_empty m.tree names)
    × (fault : Fault) × (answer ≡ answers.Failed fault)
LeavesFresh m step answer after = ⊥

-- It is as under some luck, or the step comes back for want of memory and nothing changed, or it leaves a file
-- that it failed to use.
abbrev pub IsLucky : Machine → NumberedStep → CallResult → Machine → Type 0
IsLucky m step end after =
    ((luck : Luck) × (apply m.tree (step_on m step) luck ≡ led_to step end after))
    ⊎ ((answer_of step end ≡ answers.NoMemory step) × (after.tree ≡ m.tree))
    ⊎ LeavesFresh m step (answer_of step end) after

-- the disk's table does the step
abbrev pub IsDone : Machine → NumberedStep → Type 0
IsDone m step = fault_told (apply m.tree (step_on m step) Plain).0 ≡ None

-- if no call fails without cause or moves only a part, a step is as under plain luck
abbrev pub GoesPlainly : Machine → Hint → NumberedStep → Type 0
GoesPlainly m hint step = Leads (GoesWell None) (first hint step) m (IsPlain m step)

-- if the disk's table does a step, any of its calls may fail without cause
abbrev pub MayBreak : Machine → Hint → NumberedStep → Type 0
MayBreak m hint step =
    IsDone m step → Leads OccursSomehow (first hint step) m (IsLucky m step)

-- both
pub record Agrees (m : Machine) (hint : Hint) (step : NumberedStep) : Type 0 where
  pub plainly : GoesPlainly m hint step
  pub breaking : MayBreak m hint step

-- ---- that the model can be met

-- some number is unused
abbrev pub HasRoom : Machine → Type 0
HasRoom m = (number : ℕ) × IsUnused m number

-- what a real path is asked for has one, and a folder that is opened has an order of its names
abbrev pub CanSpell : Machine → SystemCall → Type 0
CanSpell m (RealPath path) =
    IfOk (found m.tree path) (λ names. (text : List ℕ) × Spells m.tree text names)
CanSpell m (OpenFolder path) =
    IfOk (standing m.tree path) (λ names. IsPermutation (listing m.tree names) (m.order names))
CanSpell m call = Unit {0}

-- each call can happen as `GoesWell` says on each such machine
abbrev pub CallsCanGoWell : Type 0
CallsCanGoWell =
    (most : Option ℕ) (m : Machine) (call : SystemCall) → HasRoom m → CanSpell m call
    → (said : CallResult) × (after : Machine) × GoesWell most m call said after
