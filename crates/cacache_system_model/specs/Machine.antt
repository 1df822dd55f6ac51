-- A model of the system: what is there, which files are open, and what a call may say and leave.
use Rattle.std.specs.{Prelude.{◌≡◌, suc, Ok, Err, ◌+◌, ◌++◌, ◌==◌, ℕ, Bool, true, false, if◌then◌else◌, List, [], ◌∷◌, Option, None, Some, Result, MatchResult, MatchOption, IfSome, IfNone, is_some, is_none, option_map, length, take, drop}, List.{list_any}}
use Rattle.std_io.specs.declared.io.kind.ErrorKind.{ErrorKind}
use Rattle.cacache_core.specs.{Errors.{fault_of}, declared.errors.Fault.{Fault, TheVariants.{IsADirectory, Device}}, Paths.{Names, is_name}}
use Rattle.cacache_store.specs.declared.store.answer.Name.{Name}
use Rattle.cacache_disk.specs.{declared.node.Node.{Node, TheVariants.{Folder, File, Link}}, Tree.{Tree, look, put, cut, kind_of, same_path, bytes_of}, LedTo.{place}, Apply.{if_missing, taken, lengthened}}
use Rattle.cacache_system.specs.{declared.call.{FileInfo.{FileInfo}, CallResult.{CallResult}}, CallsOf.{last_slash}, AnswersOf.{refuses_memory}}
use Rattle.cacache_system.specs.declared.call.CallResult.TheVariants as says

-- Where an open file is: at these names. Or it has none any more, since it was removed or another took its place: then it
-- has a mark, which is the same under each number of this file, and holds what it held.
pub data Place : Type 0 where
  under : Names → Place
  nameless : ℕ → Option Node → Place

-- an open file, and how many bytes were read from it
pub record OpenFile : Type 0 where
  pub place : Place
  pub read : ℕ

-- what an open file is
abbrev pub node_of : Tree → Place → Option Node
node_of t (under names) = look t names
node_of t (nameless mark here) = here

-- the names of a file or folder that was synced, and what that fixed: nothing, if it failed or is in doubt
abbrev pub SyncedNode : Type 0
SyncedNode = Names × Option Node

-- what is there, the open file of each number, what was synced, latest first, the number and device of what is there, the
-- names that an open folder has left to give, and what is in a folder, in the order in which it gives the names
pub record Machine : Type 0 where
  pub tree : Tree
  pub files : ℕ → Option OpenFile
  pub synced : List SyncedNode
  pub inodes : Names → ℕ × ℕ
  pub folders : ℕ → Option (List (List ℕ))
  pub order : Names → List Name

-- what comes after the last `/`, if there is one
abbrev pub behind_slash : Option ℕ → List ℕ → List ℕ
behind_slash None path = path
behind_slash (Some i) path = drop (suc i) path

-- a path ends with a name
abbrev pub EndsInName : List ℕ → Type 0
EndsInName path = is_name (behind_slash (last_slash path (length path)) path) ≡ true

-- ---- what a call leaves

-- a number is that of an open folder if it was before
abbrev pub StaysFolder : Machine → Machine → ℕ → Type 0
StaysFolder m after number = is_some (after.folders number) ≡ is_some (m.folders number)

-- The tree, the open files and what was synced are these, and the same folders are open. The numbers of what is there,
-- the names that open folders have left, and the order of names may be others.
abbrev pub Became : Machine → Tree → (ℕ → Option OpenFile) → List SyncedNode → Machine → Type 0
Became m t files synced after =
    (after.tree ≡ t) × (after.files ≡ files) × (after.synced ≡ synced)
    × ((number : ℕ) → StaysFolder m after number)

-- the tree is another, and each open file is at its names
abbrev pub HasTree : Machine → Tree → Machine → Type 0
HasTree m t after = Became m t m.files m.synced after

-- the open files with this one under a number
abbrev pub with_file : (ℕ → Option OpenFile) → ℕ → OpenFile → ℕ → Option OpenFile
with_file files number file other = if other == number then Some file else files other

-- the tree refuses the call: an error of its fault's kind is said, and nothing changed
abbrev pub IsRefused : Fault → Machine → CallResult → Machine → Type 0
IsRefused fault m said after =
    (why : ErrorKind) × (said ≡ says.Failed why) × (fault_of why ≡ fault)
    × (refuses_memory why ≡ false) × (after ≡ m)

-- the call changes the tree at these names, or is refused
abbrev pub ChangesTree : Result Names Fault → (Names → Tree) → Machine → CallResult → Machine
    → Type 0
ChangesTree ends new m said after =
    MatchResult ends (λ names. (said ≡ says.Done) × HasTree m (new names) after)
    (λ fault. IsRefused fault m said after)

-- ---- open files without a name

-- whether a place is at these names
abbrev pub is_under : Names → Place → Bool
is_under names (under path) = same_path path names
is_under names (nameless mark here) = false

-- where an open file is once what was at these names has gone from there
abbrev pub gone : Option Node → Names → ℕ → Place → Place
gone was names mark place = if is_under names place then nameless mark was else place

-- where it is once what was at the old names has come to the new ones, and what was there has gone
abbrev pub moved : Option Node → Names → Names → ℕ → Place → Place
moved was old new mark place = if is_under old place then under new else gone was new mark place

-- a file with more bytes at its end
abbrev pub longer : List ℕ → Option Node → Option Node
longer more here = Some (File (bytes_of here ++ more))

-- where an open file is once the nameless one with this mark got more bytes
abbrev pub grown : ℕ → List ℕ → Place → Place
grown mark more (under path) = under path
grown mark more (nameless other here) =
    nameless other (if other == mark then longer more here else here)

-- an open file at another place
abbrev pub with_place : (Place → Place) → OpenFile → OpenFile
with_place other file = record { place = other file.place; read = file.read }

-- the open files, each at another place
abbrev pub placed : (Place → Place) → (ℕ → Option OpenFile) → ℕ → Option OpenFile
placed other files number = option_map (with_place other) (files number)

-- What is at some names changes: the tree is another, and so is each open file's place. Or it is refused.
abbrev pub ChangesPlaces : Result Names Fault → (Names → Tree)
    → (Option Node → Names → ℕ → Place → Place) → Machine → CallResult → Machine → Type 0
ChangesPlaces ends new other m said after =
    MatchResult ends (λ names. (mark : ℕ) × (said ≡ says.Done)
    × Became m (new names) (placed (other (look m.tree names) names mark) m.files) m.synced after)
    (λ fault. IsRefused fault m said after)

-- what is at these names is removed, or it is refused
abbrev pub RemovesNode : Result Names Fault → Machine → CallResult → Machine → Type 0
RemovesNode ends m = ChangesPlaces ends (cut m.tree) gone m

-- an open file from which nothing was read
abbrev pub unread : Names → OpenFile
unread names = record { place = under names; read = 0 }

-- neither an open file nor an open folder has the number
abbrev pub IsUnused : Machine → ℕ → Type 0
IsUnused m number = (m.files number ≡ None) × (m.folders number ≡ None)

-- a file is opened under a number that no other has, and this is the tree then
abbrev pub OpensAt : Names → Tree → Machine → CallResult → Machine → Type 0
OpensAt names t m said after =
    (number : ℕ) × (said ≡ says.Opened number) × IsUnused m number
    × Became m t (with_file m.files number (unread names)) m.synced after

-- a file is opened at these names, or it is refused
abbrev pub OpensIf : Result Names Fault → (Names → Tree) → Machine → CallResult → Machine → Type 0
OpensIf ends new m said after =
    MatchResult ends (λ names. OpensAt names (new names) m said after)
    (λ fault. IsRefused fault m said after)

-- the tree with an empty file where nothing was
abbrev pub with_empty : Tree → Names → Tree
with_empty t names = if_missing (look t names) (put t names (File [])) t

-- ---- what is said

-- whether a node is a file indeed
abbrev pub is_regular : Node → Bool
is_regular Folder = false
is_regular (File bytes) = true
is_regular (Link target) = false

-- a file's size; of anything else it may be any
abbrev pub HasSize : Node → ℕ → Type 0
HasSize Folder size = Unit {0}
HasSize (File bytes) size = size ≡ length bytes
HasSize (Link target) size = Unit {0}

-- what the system says of a node with this number on its device
pub record Describes (node : Node) (inode : ℕ × ℕ) (info : FileInfo) : Type 0 where
  pub kind : info.kind ≡ kind_of node
  pub regular : info.regular ≡ is_regular node
  pub size : HasSize node info.size
  pub number : (info.inode, info.device) ≡ inode

-- the call says what is at these names, and nothing changed
abbrev pub ShowsNode : Names → Machine → CallResult → Machine → Type 0
ShowsNode names m said after =
    (info : FileInfo) × (said ≡ says.Info info)
    × IfSome (look m.tree names) (λ node. Describes node (m.inodes names) info) × (after ≡ m)

-- the call says what is where a path leads, or why it leads nowhere
abbrev pub ShowsEnd : Result Names Fault → Machine → CallResult → Machine → Type 0
ShowsEnd ends m said after =
    MatchResult ends (λ names. ShowsNode names m said after) (λ fault. IsRefused fault m said after)

-- A call on an open file does this. If neither a file nor a folder has the number, it is refused: that number is bad.
-- Nothing is said if a folder has it.
abbrev pub OnOpen : ℕ → (OpenFile → CallResult → Machine → Type 0) → Machine → CallResult → Machine
    → Type 0
OnOpen number Does m said after =
    MatchOption (m.files number) (IfNone (m.folders number) (IsRefused Device m said after))
    (λ file. Does file said after)

-- the call says what an open file is; a nameless one has any number
abbrev pub ShowsPlace : Place → Machine → CallResult → Machine → Type 0
ShowsPlace (under names) m said after = ShowsNode names m said after
ShowsPlace (nameless mark here) m said after =
    (info : FileInfo) × (said ≡ says.Info info)
    × IfSome here (λ node. (inode : ℕ × ℕ) × Describes node inode info) × (after ≡ m)

-- the call says what the file of a number is
abbrev pub ShowsOpen : ℕ → Machine → CallResult → Machine → Type 0
ShowsOpen number m said after = OnOpen number (λ file. ShowsPlace file.place m) m said after

-- a text names a file or folder, and ends with a name
pub record Spells (t : Tree) (text : List ℕ) (names : Names) : Type 0 where
  pub stands : place t text ≡ Ok names
  pub ends : EndsInName text

-- a path without a link on it is said, and nothing changed
abbrev pub SpellsEnd : Result Names Fault → Machine → CallResult → Machine → Type 0
SpellsEnd ends m said after =
    MatchResult ends
    (λ names. (text : List ℕ) × (said ≡ says.Bytes text) × Spells m.tree text names × (after ≡ m))
    (λ fault. IsRefused fault m said after)

-- ---- reads, writes and syncs

-- an open file gives the next of its bytes
abbrev pub Gives : ℕ → OpenFile → List ℕ → Machine → CallResult → Machine → Type 0
Gives number file next m said after =
    (said ≡ says.Bytes next)
    × Became m m.tree
    (with_file m.files number (record { place = file.place; read = file.read + length next }))
    m.synced after

-- of the bytes that it has left an open file gives those that are picked; a folder can't be read
abbrev pub ReadsFile : (List ℕ → List ℕ) → ℕ → OpenFile → Option Node → Machine → CallResult
    → Machine → Type 0
ReadsFile pick number file (Some (File bytes)) m said after =
    Gives number file (pick (drop file.read bytes)) m said after
ReadsFile pick number file (Some Folder) m said after = IsRefused IsADirectory m said after
ReadsFile pick number file here m said after = Unit {0}

-- an open file is read
abbrev pub ReadsOpen : (List ℕ → List ℕ) → ℕ → Machine → CallResult → Machine → Type 0
ReadsOpen pick number m said after =
    OnOpen number (λ file. ReadsFile pick number file (node_of m.tree file.place) m) m said after

-- an open file gets more bytes
abbrev pub Grows : Place → List ℕ → Machine → Machine → Type 0
Grows (under names) more m after = HasTree m (lengthened m.tree names more) after
Grows (nameless mark here) more m after =
    Became m m.tree (placed (grown mark more) m.files) m.synced after

-- an open file takes all the bytes at its end, or at most so many
abbrev pub WritesOpen : Option ℕ → List ℕ → ℕ → Machine → CallResult → Machine → Type 0
WritesOpen most bytes number m said after =
    OnOpen number (λ file said after.
    (said ≡ says.Count (taken most bytes))
    × Grows file.place (take (taken most bytes) bytes) m after) m said after

-- a sync failed before: what it couldn't write may be lost, whatever a later one says, and may have another name by then
abbrev pub in_doubt : List SyncedNode → Bool
in_doubt syncs = list_any (λ (s : SyncedNode). is_none s.1) syncs

-- what a sync that is done fixes for certain
abbrev pub fixes : List SyncedNode → Option Node → Option Node
fixes syncs here = if in_doubt syncs then None else here

-- what was synced, with this of an open file; nothing that has a name is fixed by a sync of a nameless one
abbrev pub with_sync : Place → Option Node → List SyncedNode → List SyncedNode
with_sync (under names) here syncs = (names, here) ∷ syncs
with_sync (nameless mark old) here syncs = syncs

-- an open file or folder is synced
abbrev pub SyncsOpen : ℕ → Machine → CallResult → Machine → Type 0
SyncsOpen number m said after =
    OnOpen number (λ file said after.
    (said ≡ says.Done)
    × Became m m.tree m.files
    (with_sync file.place (fixes m.synced (node_of m.tree file.place)) m.synced) after) m said after

-- ---- owners and modes

-- an open file gets an owner or a mode: nothing changes that a machine has
abbrev pub GivesRights : ℕ → Machine → CallResult → Machine → Type 0
GivesRights number m said after =
    OnOpen number (λ file said after. (said ≡ says.Done) × (after ≡ m)) m said after

-- ---- two paths

-- why a second name can't be made here: of a folder none is permitted, but its new path is looked at first
abbrev pub link_fault : Fault → Result Names Fault → Fault
link_fault IsADirectory (Ok names) = Device
link_fault IsADirectory (Err why) = why
link_fault fault ends = fault

-- A file or link gets a second name. It is found first, and then its new path is.
abbrev pub LinksNode : Result Node Fault → Result Names Fault → Machine → CallResult → Machine
    → Type 0
LinksNode source ends m said after =
    MatchResult source (λ node. ChangesTree ends (λ names. put m.tree names node) m said after)
    (λ fault. IsRefused (link_fault fault ends) m said after)

-- the bytes that a copy finds in its source; the copy empties its target first, which may be the source
abbrev pub found_bytes : Result Names Fault → Result Names Fault → Result (List ℕ) Fault
    → Result (List ℕ) Fault
found_bytes (Ok source) (Ok target) (Ok bytes) = Ok (if same_path source target then [] else bytes)
found_bytes source target bytes = bytes

-- a file is copied to these names, or it is refused
abbrev pub CopiesTo : List ℕ → Result Names Fault → Machine → CallResult → Machine → Type 0
CopiesTo bytes ends m said after =
    MatchResult ends (λ names.
    (said ≡ says.Count (length bytes)) × HasTree m (put m.tree names (File bytes)) after)
    (λ fault. IsRefused fault m said after)

-- a file is copied; the source is looked at first
abbrev pub CopiesBytes : Result (List ℕ) Fault → Result Names Fault → Machine → CallResult
    → Machine → Type 0
CopiesBytes source ends m said after =
    MatchResult source (λ bytes. CopiesTo bytes ends m said after)
    (λ fault. IsRefused fault m said after)

-- a file or link is moved from these names; of a folder nothing is said
abbrev pub MovesNode : Names → Option Node → Result Names Fault → Machine → CallResult → Machine
    → Type 0
MovesNode old None ends m said after = Unit {0}
MovesNode old (Some Folder) ends m said after = Unit {0}
MovesNode old (Some node) ends m said after =
    ChangesPlaces ends (λ new. put (cut m.tree old) new node) (λ was. moved was old) m said after
