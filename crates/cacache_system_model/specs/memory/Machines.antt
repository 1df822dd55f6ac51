-- The machine that a system in memory is, and what its calls say and leave there.
use Rattle.std.specs.Prelude.{◌≡◌, ◌⊎◌, ℕ, List, [], None, Some, IsSomeAnd, option_map, slice_get}
use Rattle.std_io.specs.declared.io.kind.ErrorKind.{ErrorKind}
use Rattle.std_io.specs.declared.io.kind.ErrorKind.TheVariants as kind
use Rattle.cacache_disk.specs.Tree.{Tree, listing}
use Rattle.cacache_system.specs.{declared.call.{SystemCall.{SystemCall}, CallResult.{CallResult}, CallItem.{CallItem}}, Seen.{MakesCall}}
use Rattle.cacache_system.specs.declared.call.SystemCall.TheVariants as asks
use Rattle.cacache_system.specs.declared.call.CallResult.TheVariants as says
use Rattle.cacache_system_model.specs.{Machine.{Machine, node_of}, Calls.{GoesWell, OccursSomehow}, declared.memory.{files.OpenFile.{OpenFile}, system.MemorySystem.{MemorySystem}}, memory.{Files.{open_of, IsNoFile}, Noted.{items_of}}}

-- all calls so far, oldest first
abbrev pub calls_of : MemorySystem → List CallItem
calls_of system = items_of system.log

-- this tree with these open files: nothing was synced, nothing has a number, no folder is open, and names have the
-- tree's order
abbrev pub machine : Tree → List OpenFile → Machine
machine t files = record {
  tree = t;
  files = λ number. option_map open_of (slice_get files number);
  synced = [];
  inodes = λ names. (0, 0);
  folders = λ number. None;
  order = listing t;
}

-- the machine that a system is
abbrev pub machine_of : MemorySystem → Machine
machine_of system = machine system.memory.disk system.memory.files.items

-- a call failed with this error, and nothing changed
abbrev pub GivesUp : ErrorKind → Machine → CallResult → Machine → Type 0
GivesUp why m said after = (said ≡ says.Failed why) × (after ≡ m)

-- a call said and left what the model says, or memory was refused
abbrev pub Goes : MemorySystem → SystemCall → CallResult → MemorySystem → Type 0
Goes old call said new =
    GoesWell None (machine_of old) call said (machine_of new)
    ⊎ GivesUp kind.OutOfMemory (machine_of old) said (machine_of new)

-- so did a move, except that a link isn't moved
abbrev pub GoesUnlessLink : MemorySystem → SystemCall → CallResult → MemorySystem → Type 0
GoesUnlessLink old call said new =
    Goes old call said new ⊎ GivesUp kind.Unsupported (machine_of old) said (machine_of new)

-- what is open under a number is no file
abbrev pub HoldsNoFile : MemorySystem → ℕ → Type 0
HoldsNoFile system number =
    IsSomeAnd ((machine_of system).files number) (λ file.
    IsNoFile (node_of system.memory.disk file.place))

-- so did a write, except that nothing is written to what is no file
abbrev pub GoesIfFile : MemorySystem → ℕ → List ℕ → CallResult → MemorySystem → Type 0
GoesIfFile old number bytes said new =
    Goes old (asks.Write number bytes) said new
    ⊎ (HoldsNoFile old number × GivesUp kind.IsADirectory (machine_of old) said (machine_of new))

-- a call that this system doesn't have was refused, and nothing changed
abbrev pub IsUnsupported : MemorySystem → CallResult → MemorySystem → Type 0
IsUnsupported old said new = GivesUp kind.Unsupported (machine_of old) said (machine_of new)

-- the log gained this call and what was said
abbrev pub Notes : MemorySystem → SystemCall → CallResult → MemorySystem → Type 0
Notes old call said new = MakesCall (Some (calls_of old)) (Some (calls_of new)) call said

-- a call that goes so happens under some luck
abbrev pub GoesOccur : Type 0
GoesOccur =
    (old new : MemorySystem) (call : SystemCall) (said : CallResult) → Goes old call said new
    → OccursSomehow (machine_of old) call said (machine_of new)

-- so does a move
abbrev pub MovesOccur : Type 0
MovesOccur =
    (old new : MemorySystem) (from to : List ℕ) (said : CallResult)
    → GoesUnlessLink old (asks.Rename from to) said new
    → OccursSomehow (machine_of old) (asks.Rename from to) said (machine_of new)

-- so does a write
abbrev pub WritesOccur : Type 0
WritesOccur =
    (old new : MemorySystem) (number : ℕ) (bytes : List ℕ) (said : CallResult)
    → GoesIfFile old number bytes said new
    → OccursSomehow (machine_of old) (asks.Write number bytes) said (machine_of new)

-- so does any call that is refused because this system doesn't have it
abbrev pub RefusalsOccur : Type 0
RefusalsOccur =
    (old new : MemorySystem) (call : SystemCall) (said : CallResult) → IsUnsupported old said new
    → OccursSomehow (machine_of old) call said (machine_of new)
