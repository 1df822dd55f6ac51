-- Temporary files, and what a sweep leaves.
use Rattle.std.specs.{Prelude.{◌≡◌, ◌++◌, ◌&&◌, ◌==◌, if◌then◌else◌, ℕ, List, [], ◌∷◌, Bool, true, false, Option, None, Some, bytes_eq, codes, filter, length, min, ◌-◌, ◌^◌}, List.{starts_with, sum}, Bool.{nat_eq}}
use Rattle.cacache_core.specs.{declared.integrity.digest.Hash.{Hash}, Integrity.{IsHash}, Laws.{IsKeyDigest}, Paths.{Names, join, temp_area}}
use Rattle.cacache_store.specs.declared.store.answer.{Kind.{Kind}, Name.{Name}}
use Rattle.cacache_store.specs.declared.store.answer.Kind.TheVariants as kinds
use Rattle.cacache_store.specs.declared.store.answer.Answer.TheVariants as answers
use Rattle.cacache_store.specs.declared.store.step.Step.TheVariants as steps
use Rattle.cacache_disk.specs.{declared.node.Node.TheVariants.{File}, Tree.{Tree, listing, look}}
use Rattle.cacache_calls.specs.Runs.{Moves}
use Rattle.cacache_laws.specs.trees.Contents.{bucket_in, content_in}

-- ---- temporary files

-- whether it is a file
abbrev pub is_file : Kind → Bool
is_file kinds.File = true
is_file kind = false

-- the name of a temporary file begins with `.tmp`
abbrev pub is_temp_name : List ℕ → Bool
is_temp_name name = starts_with nat_eq name (codes ".tmp")

-- whether what is in the folder of temporary files is one
abbrev pub is_temporary : Name → Bool
is_temporary n = is_file n.kind && is_temp_name n.name

-- the folder of temporary files
abbrev pub temp_area_in : List ℕ → List ℕ
temp_area_in cache = join cache temp_area

-- the path of the cache folder; an empty one is that of the folder from which relative paths start
abbrev pub cache_folder : List ℕ → List ℕ
cache_folder cache = if length cache == 0 then codes "." else cache

-- what is in the place of the folder of temporary files, by the names in the cache folder
abbrev pub area_of : List Name → Option Kind
area_of [] = None
area_of (n ∷ names) = if bytes_eq n.name temp_area then Some n.kind else area_of names

-- where a temporary file of this name lies in the tree
abbrev pub temp_at : Names → List ℕ → Names
temp_at home name = home ++ temp_area ∷ name ∷ []

-- a temporary file is there
abbrev pub IsTemporary : Names → Tree → Names → Type 0
IsTemporary home t names =
    (name bytes : List ℕ) × (names ≡ temp_at home name) × (is_temp_name name ≡ true)
    × (look t names ≡ Some (File bytes))

-- each of them is asked for its size, which it answers, and removed
abbrev pub sized_removals : List ℕ → List (Name × ℕ) → Moves
sized_removals folder [] = []
sized_removals folder (r ∷ removed) =
    (steps.Size (join folder r.0.name), answers.Length r.1)
    ∷ (steps.RemoveFile (join folder r.0.name), answers.Done)
    ∷ sized_removals folder removed

-- these sizes together; 2^64 - 1 if there are more
abbrev pub total : List ℕ → ℕ
total sizes = min (sum sizes) (2 ^ 64 - 1)

-- ---- what a sweep leaves

-- so many temporary files are gone, which were all, and the rest of the tree is as it was
pub record LeavesUntemporary (home : Names) (t new : Tree) (files : ℕ) : Type 0 where
  pub counted : files ≡ length (filter is_temporary (listing t (home ++ temp_area ∷ [])))
  pub gone : (names : Names) → IsTemporary home t names → look new names ≡ None
  pub rest : (names : Names) → (IsTemporary home t names → ⊥) → look new names ≡ look t names
  pub contents : (h : Hash) → IsHash h → content_in home new h ≡ content_in home t h
  pub buckets : (digest : List ℕ) → IsKeyDigest digest
      → bucket_in home new digest ≡ bucket_in home t digest
