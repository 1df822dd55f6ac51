-- Laws on steps: those with one call, and those that open, read, remove, append, move, make or sync something.
use Rattle.std.specs.Prelude.{◌≡◌, ℕ, List, [], None, Some, Ok, option_map, ◌≤◌, MatchResult, ◌++◌}
use Rattle.cacache_core.specs.{Paths.{Names, names_of}, declared.errors.Fault.TheVariants.{NotFound}}
use Rattle.cacache_disk.specs.{declared.node.Node.{Node, TheVariants.{File, Link}}, Tree.{look, Tree, Rooted}, LedTo.{way_fault, linked, found, place}}
use Rattle.cacache_system.specs.{Seen.{NumberedTemp, NumberedFile}, AnswersOf.{Hint, rewrites}}
use Rattle.cacache_system_model.specs.{Machine.{under, OpenFile, Machine, node_of}, Laws.{Agrees, GoesPlainly, MayBreak}}
use Rattle.cacache_store.specs.declared.store.step.Step.TheVariants as steps

-- a temporary file is made
abbrev pub CreateAgrees : Type 0
CreateAgrees = (m : Machine) (hint : Hint) (path : List ℕ) → Agrees m hint (steps.CreateTemp path)

-- something is asked for
abbrev pub ExistsAgrees : Type 0
ExistsAgrees = (m : Machine) (hint : Hint) (path : List ℕ) → Agrees m hint (steps.Exists path)

-- a symbolic link is made
abbrev pub SymlinkAgrees : Type 0
SymlinkAgrees =
    (m : Machine) (hint : Hint) (target path : List ℕ) → Agrees m hint (steps.Symlink target path)

-- a file or link gets a second name
pub record HardLinks (m : Machine) (hint : Hint) (from to : List ℕ) : Type 0 where
  pub plainly : (node : Node) → linked m.tree from ≡ Ok node
      → GoesPlainly m hint (steps.HardLink from to)
  pub breaking : MayBreak m hint (steps.HardLink from to)

-- so does each
abbrev pub HardLinkAgrees : Type 0
HardLinkAgrees = (m : Machine) (hint : Hint) (from to : List ℕ) → HardLinks m hint from to

-- a reflink is always refused, as under some luck
abbrev pub ReflinkBreaks : Type 0
ReflinkBreaks =
    (m : Machine) (hint : Hint) (from to : List ℕ) → MayBreak m hint (steps.Reflink from to)

-- the file of a number is open at these names
abbrev pub IsOpenAt : Machine → ℕ → Names → Type 0
IsOpenAt m number names =
    option_map (λ (file : OpenFile). file.place) (m.files number) ≡ Some (under names)

-- a temporary file that is still at its path
pub record StillStands (m : Machine) (temp : NumberedTemp) (names : Names) (bytes : List ℕ)
    : Type 0 where
  pub named : names_of temp.path ≡ Ok names
  pub way : way_fault m.tree [] names ≡ None
  pub stands : look m.tree names ≡ Some (File bytes)
  pub opened : IsOpenAt m temp.number names

-- ---- laws on steps that open a file or ask for its size

-- a file is opened
abbrev pub OpenAgrees : Type 0
OpenAgrees = (m : Machine) (hint : Hint) (path : List ℕ) → Agrees m hint (steps.Open path)

-- a file's size is asked for
abbrev pub SizeAgrees : Type 0
SizeAgrees = (m : Machine) (hint : Hint) (path : List ℕ) → Agrees m hint (steps.Size path)

-- ---- laws on reads

-- a file is read whole
abbrev pub ReadAllAgrees : Type 0
ReadAllAgrees = (m : Machine) (hint : Hint) (path : List ℕ) → Agrees m hint (steps.ReadAll path)

-- an open file has these bytes, wherever it is
pub record StaysOpen (m : Machine) (file : NumberedFile) (found : OpenFile) (bytes : List ℕ)
    : Type 0 where
  pub known : m.files file.number ≡ Some found
  pub stands : node_of m.tree found.place ≡ Some (File bytes)

-- an open file is read
abbrev pub ReadBreaks : Type 0
ReadBreaks =
    (m : Machine) (hint : Hint) (file : NumberedFile) (found : OpenFile) (bytes : List ℕ) (max : ℕ)
    → StaysOpen m file found bytes → MayBreak m hint (steps.Read file max)

-- a read of a piece that it may still give moves all its bytes
abbrev pub PiecesReadPlainly : Type 0
PiecesReadPlainly =
    (m : Machine) (hint : Hint) (file : NumberedFile) (found : OpenFile) (bytes : List ℕ) (max : ℕ)
    → StaysOpen m file found bytes → max ≤ 131072 → max ≤ file.left
    → GoesPlainly m hint (steps.Read file max)

-- ---- laws on removals and appends

-- a line is appended
abbrev pub AppendAgrees : Type 0
AppendAgrees =
    (m : Machine) (hint : Hint) (path bytes : List ℕ) → Agrees m hint (steps.Append path bytes)

-- a file or link is removed
abbrev pub RemoveFileAgrees : Type 0
RemoveFileAgrees =
    (m : Machine) (hint : Hint) (path : List ℕ) → Agrees m hint (steps.RemoveFile path)

-- an empty folder is removed
abbrev pub RemoveDirAgrees : Type 0
RemoveDirAgrees =
    (m : Machine) (hint : Hint) (path : List ℕ) → Agrees m hint (steps.RemoveDir path)

-- ---- laws on temporary files that are put, in the place of another or of none

-- a path leads to something, or nothing is there
abbrev pub LeadsOrMisses : Tree → List ℕ → Type 0
LeadsOrMisses t path = MatchResult (found t path) (λ names. Unit {0}) (λ fault. fault ≡ NotFound)

-- what a file that was read is replaced by asks of its path
abbrev pub MayReplace : Tree → Hint → List ℕ → Type 0
MayReplace t (rewrites synced) path = LeadsOrMisses t path
MayReplace t hint path = Unit {0}

-- a temporary file is put
abbrev pub PersistAgrees : Type 0
PersistAgrees =
    (m : Machine) (hint : Hint) (temp : NumberedTemp) (path : List ℕ) (names : Names)
    (bytes : List ℕ) → StillStands m temp names bytes → MayReplace m.tree hint path
    → Agrees m hint (steps.Persist temp path)

-- ---- the law on folders that are made with those on their way

-- no link is on a path, nor at its last name
abbrev pub HasNoLink : Tree → List ℕ → Type 0
HasNoLink t path =
    (names front rest : Names) → names_of path ≡ Ok names → names ≡ front ++ rest
    → (target : List ℕ) → look t front ≡ Some (Link target) → ⊥

-- folders are made
abbrev pub MakeDirsAgrees : Type 0
MakeDirsAgrees =
    (m : Machine) (hint : Hint) (path : List ℕ) → Rooted m.tree → HasNoLink m.tree path
    → Agrees m hint (steps.MakeDirs path)

-- ---- laws on syncs, and what they fix

-- no link is at the last name of a path
abbrev pub EndsInNoLink : Tree → List ℕ → Type 0
EndsInNoLink t path =
    (names : Names) → place t path ≡ Ok names → (target : List ℕ)
    → look t names ≡ Some (Link target) → ⊥

-- a temporary file is synced
abbrev pub SyncTempAgrees : Type 0
SyncTempAgrees =
    (m : Machine) (hint : Hint) (temp : NumberedTemp) (names : Names) (bytes : List ℕ)
    → StillStands m temp names bytes → Agrees m hint (steps.SyncTemp temp)

-- a file is synced
abbrev pub SyncFileAgrees : Type 0
SyncFileAgrees = (m : Machine) (hint : Hint) (path : List ℕ) → Agrees m hint (steps.SyncFile path)

-- a folder is synced
abbrev pub SyncDirAgrees : Type 0
SyncDirAgrees =
    (m : Machine) (hint : Hint) (path : List ℕ) → EndsInNoLink m.tree path
    → Agrees m hint (steps.SyncDir path)
