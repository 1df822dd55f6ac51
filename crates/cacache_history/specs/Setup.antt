-- What callers share, and where their exports and links may lead.
use Rattle.std.specs.Prelude.{ℕ, Bool, true, false, ◌&&◌, ◌||◌, List, [], ◌∷◌, Option, None, Some, Result, Ok, Err, bytes_eq, if◌then◌else◌}
use Rattle.cacache_core.specs.{declared.errors.Fault.{Fault}, Paths.{Names, names_of, home_of}}
use Rattle.cacache_disk.specs.Tree.{same_path}
use Rattle.cacache_calls.specs.State.{Site}

-- the cache, the folder where relative link targets start, the files that links may lead to, and
-- how many callers there are
pub record Setup : Type 0 where
  pub cache : List ℕ
  pub base : List ℕ
  pub outside : List (List ℕ × List ℕ)
  pub callers : ℕ

-- where the call with this number works
abbrev pub call_site : Setup → ℕ → Site
call_site s number = record { cache = s.cache; base = s.base; number = number }

-- the names of the cache's folder
abbrev pub home : Setup → Option Names
home s = home_of s.cache

-- ---- where exports may go

-- neither path is the other, or lies below it
abbrev pub are_apart : Names → Names → Bool
are_apart [] path = false
are_apart (n ∷ ns) [] = false
are_apart (n ∷ ns) (m ∷ ms) = if bytes_eq n m then are_apart ns ms else true

-- a path is apart from the cache's folder; from one that can't be, each path is
abbrev pub apart_from_home : Option Names → Names → Bool
apart_from_home None path = true
apart_from_home (Some folder) path = are_apart folder path

-- it is apart from what a text names; from one that names nothing, each path is
abbrev pub apart_from_text : Result Names Fault → Names → Bool
apart_from_text (Ok names) path = are_apart names path
apart_from_text (Err fault) path = true

-- it is apart from each outside file
abbrev pub apart_from_files : List (List ℕ × List ℕ) → Names → Bool
apart_from_files [] path = true
apart_from_files (file ∷ files) path =
    apart_from_text (names_of file.0) path && apart_from_files files path

-- an export may go apart from the cache and from the outside files; if a text names nothing, its
-- step fails
abbrev pub may_take : Setup → Result Names Fault → Bool
may_take s (Ok path) = apart_from_home (home s) path && apart_from_files s.outside path
may_take s (Err fault) = true

-- an export may go to what this text names
abbrev pub may_export : Setup → List ℕ → Bool
may_export s path = may_take s (names_of path)

-- ---- where links may lead

-- both texts name the same path
abbrev pub same_place : Result Names Fault → Result Names Fault → Bool
same_place (Ok a) (Ok b) = same_path a b
same_place a b = false

-- one of these files lies here
abbrev pub has_file : List (List ℕ × List ℕ) → List ℕ → Bool
has_file [] path = false
has_file (file ∷ files) path = same_place (names_of file.0) (names_of path) || has_file files path

-- a link may lead here: one of the outside files lies here
abbrev pub is_outside : Setup → List ℕ → Bool
is_outside s path = has_file s.outside path
