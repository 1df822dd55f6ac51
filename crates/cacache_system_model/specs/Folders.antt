-- Folders that are opened to be listed, and the names that they give.
use Rattle.std.specs.Prelude.{◌≡◌, ◌⊎◌, ℕ, List, [], ◌∷◌, ◌++◌, Option, Some, IsPermutation, MatchOption, IfNone, Result, MatchResult}
use Rattle.cacache_core.specs.{declared.errors.Fault.{Fault, TheVariants.{Device}}, Paths.{Names}}
use Rattle.cacache_store.specs.declared.store.answer.Name.{Name}
use Rattle.cacache_disk.specs.{declared.node.Node.{Node, TheVariants.{Folder}}, Tree.{look, listing}}
use Rattle.cacache_system.specs.declared.call.CallResult.{CallResult}
use Rattle.cacache_system.specs.declared.call.CallResult.TheVariants as says
use Rattle.cacache_system_model.specs.Machine.{Machine, IsRefused, IsUnused, StaysFolder}

-- the folder itself, or the one above it
abbrev pub IsDots : List ℕ → Type 0
IsDots name = (name ≡ 46 ∷ []) ⊎ (name ≡ 46 ∷ 46 ∷ [])

-- these are the names of some entries in their order, with the folder itself and the one above it among them
abbrev pub GivesNames : List (List ℕ) → List Name → Type 0
GivesNames [] entries = entries ≡ []
GivesNames (name ∷ names) entries =
    (IsDots name × GivesNames names entries)
    ⊎ ((entry : Name) × (others : List Name) × (entries ≡ entry ∷ others) × (entry.name ≡ name)
    × GivesNames names others)

-- names as a read gives them, each ended by a NUL
abbrev pub ended : List (List ℕ) → List ℕ
ended [] = []
ended (name ∷ names) = name ++ 0 ∷ ended names

-- nothing changed, but an open folder has these names left, and others may have others left
pub record HasLeft (number : ℕ) (names : List (List ℕ)) (m after : Machine) : Type 0 where
  pub tree : after.tree ≡ m.tree
  pub files : after.files ≡ m.files
  pub synced : after.synced ≡ m.synced
  pub left : after.folders number ≡ Some names
  pub others : (k : ℕ) → (k ≡ number → ⊥) → StaysFolder m after k

-- A folder is opened, and will give each name in it once, in its own order. Of a file or a link nothing is said.
abbrev pub OpensNames : Names → Option Node → Machine → CallResult → Machine → Type 0
OpensNames names (Some Folder) m said after =
    (number : ℕ) × (given : List (List ℕ)) × (said ≡ says.Opened number) × IsUnused m number
    × IsPermutation (listing m.tree names) (m.order names) × GivesNames given (m.order names)
    × HasLeft number given m after
OpensNames names here m said after = Unit {0}

-- a folder is opened by its path, or it is refused
abbrev pub OpensFolder : Result Names Fault → Machine → CallResult → Machine → Type 0
OpensFolder ends m said after =
    MatchResult ends (λ names. OpensNames names (look m.tree names) m said after)
    (λ fault. IsRefused fault m said after)

-- some of the names that are left are given, and none only if none is left
abbrev pub ReadsSome : ℕ → List (List ℕ) → Machine → CallResult → Machine → Type 0
ReadsSome number left m said after =
    (given : List (List ℕ)) × (rest : List (List ℕ)) × (left ≡ given ++ rest)
    × (given ≡ [] → rest ≡ []) × (said ≡ says.Bytes (ended given)) × HasLeft number rest m after

-- An open folder is read. If neither a folder nor a file has the number, it is refused.
abbrev pub ReadsFolder : ℕ → Machine → CallResult → Machine → Type 0
ReadsFolder number m said after =
    MatchOption (m.folders number) (IfNone (m.files number) (IsRefused Device m said after))
    (λ left. ReadsSome number left m said after)
