-- A walk that reads a folder and all folders below it, and the files and links that it finds.
use Rattle.std.specs.{Prelude.{◌≡◌, ◌⊎◌, ◌≤◌, ◌<◌, ◌+◌, ◌-◌, ℕ, List, [], ◌∷◌, ◌++◌, Option, None, Some, Contains, length, filter_map, unwrap_or}, List.{flat_map}}
use Rattle.cacache_core.specs.{declared.errors.{Error.{Error, TheVariants.{IoError, OutOfMemory}}, Fault.TheVariants.{NotFound, TooDeep}}, Paths.{join}}
use Rattle.cacache_store.specs.{declared.store.{answer.{Kind.{Kind}, Name.{Name}, Answer.TheVariants.{Names, Failed}}, step.Step.TheVariants.{ReadDir}}, Plain.{PlainStep, PlainAnswer, Fits}}
use Rattle.cacache_store.specs.declared.store.answer.Kind.TheVariants as kinds
use Rattle.cacache_calls.specs.Runs.{Moves}

-- a folder to read, and its level below the first one
pub record Folder : Type 0 where
  pub path : List ℕ
  pub level : ℕ

-- the folder at which the walk begins
abbrev pub top_folder : List ℕ → Folder
top_folder path = record { path = path; level = 0 }

-- ---- what is in a folder

-- a folder in it, one level deeper
abbrev pub folder_as : Kind → List ℕ → ℕ → Option Folder
folder_as kinds.Folder path level = Some (record { path = path; level = level + 1 })
folder_as kinds.File path level = None
folder_as kinds.Link path level = None

-- the path of a file or link in it
abbrev pub file_as : Kind → List ℕ → Option (List ℕ)
file_as kinds.Folder path = None
file_as kinds.File path = Some path
file_as kinds.Link path = Some path

-- the folders among a folder's names
abbrev pub folders_in : Folder → List Name → List Folder
folders_in f names = filter_map (λ n. folder_as n.kind (join f.path n.name) f.level) names

-- the paths of the files and links among a folder's names
abbrev pub file_paths : List ℕ → List Name → List (List ℕ)
file_paths path names = filter_map (λ n. file_as n.kind (join path n.name)) names

-- ---- a whole walk

-- the names that an answer shows; a folder that isn't there has none
abbrev pub names_shown : PlainAnswer → Option (List Name)
names_shown (Names names) = Some names
names_shown (Failed NotFound) = Some []
names_shown answer = None

-- the moves read these folders, each at most sixteen levels down, and all folders below them
abbrev pub ReadsFolders : List Folder → Moves → Type 0
ReadsFolders [] [] = Unit {0}
ReadsFolders [] (m ∷ moves) = ⊥
ReadsFolders (f ∷ todo) [] = ⊥
ReadsFolders (f ∷ todo) (m ∷ moves) =
    (m.0 ≡ ReadDir f.path) × Fits m.0 m.1 × (f.level ≤ 16)
    × ((names : List Name) × (names_shown m.1 ≡ Some names)
    × ReadsFolders (folders_in f names ++ todo) moves)

-- the files and links that a move shows
abbrev pub shown_by : PlainStep → PlainAnswer → List (List ℕ)
shown_by (ReadDir path) answer = file_paths path (unwrap_or (names_shown answer) [])
shown_by step answer = []

-- the files and links that the moves show
abbrev pub files_shown : Moves → List (List ℕ)
files_shown moves = flat_map (λ m. shown_by m.0 m.1) moves

-- ---- a walk that an error ends

-- one of the folders is more than sixteen levels down
abbrev pub HasDeeper : List Folder → Type 0
HasDeeper folders = (f : Folder) × Contains folders f × (16 < f.level)

-- with these folders still to read, there was no memory left, or one of them is too deep
abbrev pub IsOwnError : List Folder → Error → Type 0
IsOwnError todo OutOfMemory = Unit {0}
IsOwnError todo (IoError fault message) = (fault ≡ TooDeep) × HasDeeper todo
IsOwnError todo e = ⊥

-- a failed step has the error's fault, unless there was no memory left
abbrev pub IsErrorOf : PlainAnswer → Error → Type 0
IsErrorOf answer OutOfMemory = Unit {0}
IsErrorOf (Failed fault) (IoError f message) = f ≡ fault
IsErrorOf answer e = ⊥

-- the last answer shows more names than this, which is too deep; or it shows none and says why
abbrev pub EndsBy : ℕ → PlainAnswer → Error → Type 0
EndsBy left answer e =
    ((names : List Name) × (names_shown answer ≡ Some names)
    × (left < length names) × IsErrorOf (Failed TooDeep) e)
    ⊎ ((names_shown answer ≡ None) × IsErrorOf answer e)

-- the moves begin a walk that may take this many names, and this error ends it
abbrev pub StopsWalk : ℕ → List Folder → Moves → Error → Type 0
StopsWalk left todo [] e = IsOwnError todo e
StopsWalk left [] (m ∷ moves) e = ⊥
StopsWalk left (f ∷ todo) (m ∷ moves) e =
    (m.0 ≡ ReadDir f.path) × Fits m.0 m.1 × (f.level ≤ 16)
    × (((names : List Name) × (names_shown m.1 ≡ Some names)
    × StopsWalk (left - length names) (folders_in f names ++ todo) moves e)
    ⊎ ((moves ≡ []) × EndsBy left m.1 e))
