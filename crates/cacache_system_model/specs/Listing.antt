-- The laws on listings.
use Rattle.std.specs.{Prelude.{◌≡◌, ◌⊎◌, ◌==◌, ℕ, true, false, List, [], ◌∷◌, ◌++◌, Some, Ok, Err, None, length, IsPermutation}, List.{AllByRecursion}, Str.{is_utf8}}
use Rattle.std_io.specs.declared.io.kind.ErrorKind.TheVariants as kind
use Rattle.cacache_core.specs.{declared.errors.Fault.TheVariants.{NotFound}, Paths.{Names, IsProperName}}
use Rattle.cacache_store.specs.declared.store.step.Step.TheVariants as steps
use Rattle.cacache_store.specs.declared.store.answer.Name.{Name}
use Rattle.cacache_store.specs.declared.store.answer.Answer.TheVariants as answers
use Rattle.cacache_disk.specs.{declared.node.Node.{Node, TheVariants.{Folder}}, Tree.{Tree, look, listing, kind_of}, LedTo.{standing, folder}}
use Rattle.cacache_system.specs.{declared.call.CallResult.{CallResult, TheVariants.{Failed}}, Seen.{text_of, with_slash}, AnswersOf.{Hint, first}}
use Rattle.cacache_system_model.specs.{Machine.{Machine}, Calls.{GoesWell, OccursSomehow}, Laws.{outcome, led_to, Leads, IsLucky, MayBreak}}

-- an entry of a folder: its name is proper and is given as it is, and the entry is under it
pub record IsPlainEntry (t : Tree) (path : List ℕ) (names : Names) (entry : Name) : Type 0 where
  pub proper : IsProperName entry.name
  pub told : text_of entry.name ≡ entry.name
  pub text : is_utf8 (with_slash path ++ entry.name) ≡ true
  pub stands : standing t (with_slash path ++ entry.name) ≡ Ok (names ++ entry.name ∷ [])
  pub node : Node
  pub there : look t (names ++ entry.name ∷ []) ≡ Some node
  pub kind : kind_of node ≡ entry.kind

-- a folder is at a path, and its entries are such
pub record ListsPlainly (t : Tree) (path : List ℕ) : Type 0 where
  pub names : Names
  pub some : (length path == 0) ≡ false
  pub stands : standing t path ≡ Ok names
  pub slashed : standing t (with_slash path) ≡ Ok names
  pub folder : folder t path ≡ Ok names
  pub there : look t names ≡ Some Folder
  pub entries : AllByRecursion (IsPlainEntry t path names) (listing t names)

-- nothing is at a path
abbrev pub IsAbsent : Tree → List ℕ → Type 0
IsAbsent t path = standing t path ≡ Err NotFound

-- The names of the folder are answered in its own order, and nothing changed. These are the names of the disk's table, each
-- once.
abbrev pub Lists : Machine → List ℕ → CallResult → Machine → Type 0
Lists m path end after =
    (names : Names) × (folder m.tree path ≡ Ok names)
    × IsPermutation (listing m.tree names) (m.order names)
    × (outcome (answers.Names (m.order names)) m.tree ≡ led_to (steps.ReadDir path) end after)

-- so it is, if memory isn't refused, and the folder doesn't give too many names
abbrev pub IsListed : Machine → List ℕ → CallResult → Machine → Type 0
IsListed m path end after =
    (end ≡ Failed kind.OutOfMemory → ⊥) → (end ≡ Failed kind.FileTooLarge → ⊥)
    → Lists m path end after

-- if no call fails without cause, a folder is listed
abbrev pub ReadDirGoesPlainly : Type 0
ReadDirGoesPlainly =
    (m : Machine) (hint : Hint) (path : List ℕ) → ListsPlainly m.tree path
    → Leads (GoesWell None) (first hint (steps.ReadDir path)) m (IsListed m path)

-- the folder is listed, or it is as under some luck
abbrev pub IsListedOrLucky : Machine → List ℕ → CallResult → Machine → Type 0
IsListedOrLucky m path end after =
    Lists m path end after ⊎ IsLucky m (steps.ReadDir path) end after

-- any of its calls may fail without cause, whether or not a listing named the folder before
abbrev pub ReadDirBreaks : Type 0
ReadDirBreaks =
    (m : Machine) (hint : Hint) (path : List ℕ) → ListsPlainly m.tree path
    → Leads OccursSomehow (first hint (steps.ReadDir path)) m (IsListedOrLucky m path)

-- a folder gives its names in the tree's order
abbrev pub GivesInOrder : Machine → List ℕ → Type 0
GivesInOrder m path =
    (names : Names) → folder m.tree path ≡ Ok names → m.order names ≡ listing m.tree names

-- a folder with such entries, which gives its names in order, is at a path; or nothing is, nor with a `/` after it
abbrev pub CanList : Machine → List ℕ → Type 0
CanList m path =
    (IsAbsent m.tree path × IsAbsent m.tree (with_slash path))
    ⊎ (ListsPlainly m.tree path × GivesInOrder m path)

-- then it is as under some luck
abbrev pub ReadDirInOrder : Type 0
ReadDirInOrder =
    (m : Machine) (hint : Hint) (path : List ℕ) → ListsPlainly m.tree path
    → GivesInOrder m path → MayBreak m hint (steps.ReadDir path)
