-- What a listing of the contents shows of a tree.
use Rattle.std.specs.{Prelude.{◌≡◌, ◌↔◌, ◌<◌, ◌++◌, ℕ, List, [], ◌∷◌, Option, Some, IsTrue, All, Contains, length}, List.Sorted.{IsStrictlySortedBy}}
use Rattle.cacache_core.specs.{declared.integrity.digest.Hash.{Hash}, Integrity.{IsHash}, Paths.{Names, IsProperName, home_of, join, joined, content_names, content_area}}
use Rattle.cacache_disk.specs.Tree.{Tree, look}
use Rattle.cacache_calls.specs.Runs.{Moves}
use Rattle.cacache_entry.specs.Entry.{Entry}
use Rattle.cacache_value.specs.Value.{Blob, value_of_tree}
use Rattle.cacache_walks.specs.{Addresses.{IsStrange}, Listing.{content_area_in, hash_cmp}, Reading.{ReadsFolders, top_folder, files_shown}}
use Rattle.cacache_laws.specs.trees.Walks.{ReadAt, is_leaf}

-- the integrities of one hash whose content's path is among the files
abbrev pub AreThoseOf : List ℕ → List (List ℕ) → List (List Hash) → Type 0
AreThoseOf cache files addresses =
    (h : Hash) → IsHash h
    → Contains addresses (h ∷ []) ↔ Contains files (joined cache (content_names h))

-- what the cache holds at the address, if anything
abbrev pub content_in : Names → Tree → Hash → Option Blob
content_in home t = (value_of_tree (Some home) t).contents

-- the entries in the bucket of a key's digest, if there is one
abbrev pub bucket_in : Names → Tree → List ℕ → Option (List Entry)
bucket_in home t = (value_of_tree (Some home) t).buckets

-- the cache holds something at the address
abbrev pub IsHeld : Names → Tree → Hash → Type 0
IsHeld home t h = (blob : Blob) × (content_in home t h ≡ Some blob)

-- at one of the places where the walk read, the cache holds an address exactly if it is listed
abbrev pub ContentsShown : Type 0
ContentsShown =
    (cache : List ℕ) (home : Names) (moves : Moves) (trees : List Tree)
    (addresses : List (List Hash))
    → home_of cache ≡ Some home
    → ReadsFolders (top_folder (join cache content_area) ∷ []) moves → ReadAt trees moves
    → AreThoseOf cache (files_shown moves) addresses
    → (h : Hash) → IsHash h
    → (t : Tree) × Contains trees t × (Contains addresses (h ∷ []) ↔ IsHeld home t h)

-- ---- on one tree

-- the path is that of a file or link below the folder of contents
abbrev pub LiesBelow : List ℕ → Names → Tree → List ℕ → Type 0
LiesBelow cache home t path =
    (names : Names) × (0 < length names) × All IsProperName names
    × (path ≡ joined (content_area_in cache) names)
    × IsTrue (is_leaf (look t (home ++ content_area ∷ names)))

-- the cache holds contents at exactly these addresses, which come in order, none twice; and these
-- are the paths of all other files and links below the folder of contents
pub record HoldsJust
    (cache : List ℕ) (home : Names) (t : Tree)
    (hashes : List Hash) (strange : List (List ℕ)) : Type 0 where
  pub ascend : IsStrictlySortedBy hash_cmp hashes
  pub formed : (h : Hash) → Contains hashes h → IsHash h
  pub held : (h : Hash) → IsHash h → Contains hashes h ↔ IsHeld home t h
  pub others : (path : List ℕ)
      → Contains strange path ↔ (LiesBelow cache home t path × IsStrange cache path)

-- what one tree holds is one list
abbrev pub HoldingsAgree : Type 0
HoldingsAgree =
    (cache : List ℕ) (home : Names) (t : Tree) (hashes others : List Hash)
    (strange stranger : List (List ℕ))
    → HoldsJust cache home t hashes strange → HoldsJust cache home t others stranger
    → hashes ≡ others
