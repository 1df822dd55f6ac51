-- What the calls do to the tree, when memory may be refused.
use Rattle.std.specs.Prelude.{◌≡◌, ⊤, ℕ, List, Option, None, Some, IsSomeAnd, Result, Ok, Err, MatchResult, IsOkAnd, length}
use Rattle.cacache_core.specs.{declared.errors.Fault.{Fault, TheVariants.{Unsupported}}, Paths.{Names}}
use Rattle.cacache_store.specs.{Plain.{PlainStep, PlainAnswer}, declared.store.answer.Answer.TheVariants.{Failed}}
use Rattle.cacache_disk.specs.{declared.{luck.Luck.TheVariants.{Plain}, node.Node.{Node, TheVariants.{Folder, File, Link}}, stop.Stop.{Stop}}, Tree.{Tree, look, put, kind_of, Rooted}, Plans.{Stops}, LedTo.{place, free, linked}, Apply.{apply, fault_told}}
use Rattle.cacache_disk.specs.declared.stop.Stop.TheVariants as stop
use Rattle.cacache_system.specs.declared.call.FileInfo.{FileInfo}
use Rattle.cacache_system_model.specs.Machine.{link_fault, is_regular}

-- a step was done, or failed as the table says, or memory was refused and nothing changed
abbrev pub Does : Tree → PlainStep → Result ⊤ Stop → Tree → Type 0
Does t step (Ok done) u =
    (answer : PlainAnswer) × (apply t step Plain ≡ (answer, u)) × (fault_told answer ≡ None)
Does t step (Err (stop.Fault fault)) u = apply t step Plain ≡ (Failed fault, u)
Does t step (Err stop.OutOfMemory) u = u ≡ t

-- the tree became another at what was found, or that says why not, or memory was refused
abbrev pub Changed : {A : Type 0} → Result A Fault → (A → Tree) → Result ⊤ Stop → Tree → Tree
    → Type 0
Changed ends new (Ok done) t u = IsOkAnd ends (λ found. u ≡ new found)
Changed ends new (Err (stop.Fault fault)) t u = (ends ≡ Err fault) × (u ≡ t)
Changed ends new (Err stop.OutOfMemory) t u = u ≡ t

-- a fault kept the tree as it was, unless memory was refused
abbrev pub Stopped : Fault → Result ⊤ Stop → Tree → Tree → Type 0
Stopped fault done t u = Changed {A = Names} (Err fault) (λ names. t) done t u

-- why a link isn't made, if this is why its source can't be linked; memory may be refused to a look at its new path
abbrev pub Unlinks : Result Names Fault → Stop → Stop → Type 0
Unlinks ends (stop.Fault fault) stop.OutOfMemory = ⊤
Unlinks ends (stop.Fault fault) (stop.Fault why) = link_fault fault ends ≡ why
Unlinks ends stop.OutOfMemory why = why ≡ stop.OutOfMemory

-- a file or link got a second name; what is linked is looked at first
abbrev pub Linked : Tree → List ℕ → List ℕ → Result ⊤ Stop → Tree → Type 0
Linked t from to done u =
    MatchResult (linked t from) (λ node. Changed (free t to) (λ names. put t names node) done t u)
    (λ fault. Stopped (link_fault fault (free t to)) done t u)

-- why what is somewhere isn't moved
abbrev pub IsUnmoved : Option Node → Fault → Type 0
IsUnmoved None fault = ⊤
IsUnmoved (Some Folder) fault = ⊤
IsUnmoved (Some (File bytes)) fault = ⊥
IsUnmoved (Some (Link target)) fault = fault ≡ Unsupported

-- the bytes of a file that is to be moved, or why it isn't
abbrev pub Movable : Tree → List ℕ → Result (List ℕ) Stop → Type 0
Movable t path (Ok bytes) = IsOkAnd (place t path) (λ names. look t names ≡ Some (File bytes))
Movable t path (Err (stop.Fault fault)) =
    MatchResult (place t path) (λ names. IsUnmoved (look t names) fault) (λ why. why ≡ fault)
Movable t path (Err stop.OutOfMemory) = ⊤

-- with this node at the names, each node is still in a folder
abbrev pub CanPut : Tree → Names → Node → Type 0
CanPut t names node = Rooted t → Rooted (put t names node)

-- a file's size, and none of anything else
abbrev pub size_of : Node → ℕ
size_of Folder = 0
size_of (File bytes) = length bytes
size_of (Link target) = 0

-- what is said of a node: none has a number, and all have the same mode and owner
abbrev pub info_of : Node → FileInfo
info_of node = record {
  kind = kind_of node;
  regular = is_regular node;
  size = size_of node;
  inode = 0;
  device = 0;
  mode = 420;
  owner = 0;
  group = 0;
}

-- it is said what is where something was found, or why nothing is
abbrev pub Shown : Result Names Fault → Tree → Result FileInfo Stop → Type 0
Shown ends t (Ok info) =
    IsOkAnd ends (λ names. IsSomeAnd (look t names) (λ node. info ≡ info_of node))
Shown ends t (Err why) = Stops why ends
