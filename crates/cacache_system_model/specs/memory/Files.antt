-- The open files of a system in memory, and what becomes of them.
use Rattle.std.specs.Prelude.{◌≡◌, ⊤, ℕ, ◌+◌, ◌^◌, ◌<◌, List, [], ◌∷◌, ◌++◌, map, drop, length, slice_get, slice_set, Option, None, Some, IsSome, IsSomeAnd, Result, Ok, Err, IsOkAnd, MatchResult}
use Rattle.cacache_core.specs.{declared.errors.Fault.{Fault, TheVariants.{Device, IsADirectory, Unsupported}}, Paths.{Names}}
use Rattle.cacache_disk.specs.{declared.{node.Node.{Node, TheVariants.{Folder, File, Link}}, stop.Stop.{Stop}}, Tree.{Tree, look, put, cut}, LedTo.{place, replaceable}, Apply.{lengthened}}
use Rattle.cacache_disk.specs.declared.stop.Stop.TheVariants as stop
use Rattle.cacache_system_model.specs.Machine as model
use Rattle.cacache_system.specs.declared.call.FileInfo.{FileInfo}
use Rattle.cacache_system_model.specs.{Machine.{gone, moved, grown, node_of, with_place}, memory.Changes.{info_of}, declared.memory.{files.{Place.{Place}, OpenFile.{OpenFile}}, state.Memory.{Memory}}}
use Rattle.cacache_system_model.specs.declared.memory.files.Place.TheVariants as places

-- a place as the model has it
abbrev pub place_of : Place → model.Place
place_of (places.Under names) = model.under names
place_of (places.Nameless mark node) = model.nameless mark node

-- an open file as the model has it
abbrev pub open_of : OpenFile → model.OpenFile
open_of file = record { place = place_of file.place; read = file.read }

-- what is at these names goes, and what is at the old ones, if there are such, comes there
abbrev pub left : Option Names → Option Node → Names → ℕ → model.Place → model.Place
left None was names mark = gone was names mark
left (Some old) was names mark = moved was old names mark

-- each open file is at another place
abbrev pub ArePlaced : (model.Place → model.Place) → List OpenFile → List OpenFile → Type 0
ArePlaced other old new = map open_of new ≡ map (λ file. with_place other (open_of file)) old

-- the tree and the open files are the same
abbrev pub IsSame : Memory → Memory → Type 0
IsSame old new = (new.disk ≡ old.disk) × (new.files.items ≡ old.files.items)

-- ---- openings, reads and writes

-- a file was opened at these names, under the next number, and this is the tree then
abbrev pub OpensAt : Names → Tree → Memory → ℕ → Memory → Type 0
OpensAt names t old number new =
    (new.disk ≡ t) × (number ≡ length old.files.items)
    × (map open_of new.files.items ≡ map open_of old.files.items ++ model.unread names ∷ [])

-- so it was, unless memory was refused: then all is the same
abbrev pub OpensIfRoom : Names → Tree → Memory → Result ℕ Stop → Memory → Type 0
OpensIfRoom names t old (Ok number) new = OpensAt names t old number new
OpensIfRoom names t old (Err why) new = (why ≡ stop.OutOfMemory) × IsSame old new

-- A file was opened at what was found, and this is the tree then. Or this says why not, or memory was refused, and all is
-- the same.
abbrev pub Opens : Result Names Fault → (Names → Tree) → Memory → Result ℕ Stop → Memory → Type 0
Opens ends tree old (Ok number) new =
    IsOkAnd ends (λ names. OpensAt names (tree names) old number new)
Opens ends tree old (Err (stop.Fault fault)) new = (ends ≡ Err fault) × IsSame old new
Opens ends tree old (Err stop.OutOfMemory) new = IsSame old new

-- it is no file
abbrev pub IsNoFile : Option Node → Type 0
IsNoFile (Some (File bytes)) = ⊥
IsNoFile here = ⊤

-- it is a file
abbrev pub IsFile : Option Node → Type 0
IsFile here = (bytes : List ℕ) × (here ≡ Some (File bytes))

-- these bytes are what an open file has after the first so many
abbrev pub IsRest : ℕ → Option Node → List ℕ → Type 0
IsRest read (Some (File bytes)) rest = rest ≡ drop read bytes
IsRest read here rest = ⊥

-- a call on an open file wasn't done: none has the number, or it is no file
abbrev pub IsBad : Memory → Option OpenFile → Stop → Type 0
IsBad m None why = why ≡ stop.Fault Device
IsBad m (Some file) why =
    IsNoFile (node_of m.disk (place_of file.place)) × (why ≡ stop.Fault IsADirectory)

-- a call on an open file failed, and all is the same: it was bad, or memory was refused
abbrev pub Fails : ℕ → Memory → Stop → Memory → Type 0
Fails number old stop.OutOfMemory new = IsSame old new
Fails number old why new = IsBad old (slice_get old.files.items number) why × IsSame old new

-- an open file of which so many bytes more were read
abbrev pub read_more : ℕ → OpenFile → OpenFile
read_more count file = record { place = file.place; read = file.read + count }

-- an open file has these bytes left to read, and may be read to their end
abbrev pub HasLeft : ℕ → List ℕ → Memory → Type 0
HasLeft number rest m =
    IsSomeAnd (slice_get m.files.items number) (λ file.
    IsRest file.read (node_of m.disk (place_of file.place)) rest × (file.read + length rest < 2 ^ 64))

-- nothing changed but that so many bytes more were read of an open file
abbrev pub HasRead : ℕ → ℕ → Memory → Memory → OpenFile → Type 0
HasRead number count old new file =
    (new.disk ≡ old.disk)
    × (new.files.items ≡ slice_set old.files.items number (read_more count file))

-- an open file gave these bytes, of those that it had left the ones that are picked
abbrev pub Gives : (List ℕ → List ℕ) → ℕ → List ℕ → Memory → Memory → OpenFile → Type 0
Gives pick number next old new file =
    (rest : List ℕ) × IsRest file.read (node_of old.disk (place_of file.place)) rest
    × (next ≡ pick rest) × HasRead number (length next) old new file

-- an open file was read, and its bytes are these; or it failed
abbrev pub Reads : (List ℕ → List ℕ) → ℕ → (ℕ → List ℕ) → Memory → Result ℕ Stop → Memory → Type 0
Reads pick number given old (Ok count) new =
    IsSomeAnd (slice_get old.files.items number) (Gives pick number (given count) old new)
Reads pick number given old (Err why) new = Fails number old why new

-- a file got more bytes at its end, wherever it is
abbrev pub Lengthens : model.Place → List ℕ → Memory → Memory → Type 0
Lengthens (model.under names) more old new =
    (new.disk ≡ lengthened old.disk names more) × (new.files.items ≡ old.files.items)
Lengthens (model.nameless mark here) more old new =
    (new.disk ≡ old.disk) × ArePlaced (grown mark more) old.files.items new.files.items

-- an open file took all these bytes; or it failed
abbrev pub Writes : List ℕ → ℕ → Memory → Result ℕ Stop → Memory → Type 0
Writes more number old (Ok count) new =
    (count ≡ length more)
    × IsSomeAnd (slice_get old.files.items number) (λ file. Lengthens (place_of file.place) more old new)
Writes more number old (Err why) new = Fails number old why new

-- an open file is there; or no file has the number
abbrev pub IsOpen : ℕ → Memory → Result ⊤ Stop → Type 0
IsOpen number m (Ok done) = IsSome (slice_get m.files.items number)
IsOpen number m (Err why) = (slice_get m.files.items number ≡ None) × (why ≡ stop.Fault Device)

-- what is said of an open file; of one that is nowhere, what is said of a folder
abbrev pub open_info : Option Node → FileInfo
open_info None = info_of Folder
open_info (Some node) = info_of node

-- an open file was looked at; or no file has the number
abbrev pub ShownOpen : ℕ → Memory → Result FileInfo Stop → Type 0
ShownOpen number m (Ok info) =
    IsSomeAnd (slice_get m.files.items number) (λ file.
    info ≡ open_info (node_of m.disk (place_of file.place)))
ShownOpen number m (Err why) = (slice_get m.files.items number ≡ None) × (why ≡ stop.Fault Device)

-- ---- copies

-- a file was copied to what was found; or this says why not, or memory was refused, and all is the same
abbrev pub Copied : Result (List ℕ) Fault → Result Names Fault → Memory → Result ℕ Stop → Memory → Type 0
Copied source ends old (Ok count) new =
    IsOkAnd source (λ bytes. IsOkAnd ends (λ names. (count ≡ length bytes)
    × (new.disk ≡ put old.disk names (File bytes)) × (new.files.items ≡ old.files.items)))
Copied (Ok bytes) ends old (Err (stop.Fault fault)) new = (ends ≡ Err fault) × IsSame old new
Copied (Err own) ends old (Err (stop.Fault fault)) new = (own ≡ fault) × IsSame old new
Copied source ends old (Err stop.OutOfMemory) new = IsSame old new

-- ---- removals and moves

-- What is at some names was removed or moved, and open files were placed anew. Or this says why not, or memory was refused,
-- and all is the same.
abbrev pub Displaces : Result Names Fault → (Names → Tree) → Option Names → Memory → Result ⊤ Stop
    → Memory → Type 0
Displaces ends tree from old (Ok done) new =
    IsOkAnd ends (λ names. (new.disk ≡ tree names)
    × ArePlaced (left from (look old.disk names) names old.marks) old.files.items new.files.items)
Displaces ends tree from old (Err (stop.Fault fault)) new = (ends ≡ Err fault) × IsSame old new
Displaces ends tree from old (Err stop.OutOfMemory) new = IsSame old new

-- a file was moved from these names, and a link wasn't
abbrev pub MovesFile : Names → Option Node → Result Names Fault → Memory → Result ⊤ Stop → Memory
    → Type 0
MovesFile old None ends m done new = ⊤
MovesFile old (Some Folder) ends m done new = ⊤
MovesFile old (Some (File bytes)) ends m done new =
    Displaces ends (λ names. put (cut m.disk old) names (File bytes)) (Some old) m done new
MovesFile old (Some (Link target)) ends m done new =
    Displaces (Err Unsupported) (λ names. m.disk) None m done new

-- what is at a path was
abbrev pub MovesPath : List ℕ → List ℕ → Memory → Result ⊤ Stop → Memory → Type 0
MovesPath from to m done new =
    MatchResult (place m.disk from)
    (λ old. MovesFile old (look m.disk old) (replaceable m.disk to) m done new)
    (λ fault. Displaces (Err fault) (λ names. m.disk) None m done new)
