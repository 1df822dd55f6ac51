-- Where the buckets of an index lie.
use Rattle.std.specs.{Prelude.{◌≡◌, ◌⊎◌, ◌++◌, ◌==◌, ◌&&◌, ◌||◌, ℕ, List, [], ◌∷◌, Bool, true, false, Option, if◌then◌else◌, filter, length, map, nat_le}, List.{flat_map, list_all}}
use Rattle.cacache_core.specs.{declared.errors.Error.{Error, TheVariants.{OutOfMemory}}, Paths.{join, index_area}}
use Rattle.cacache_store.specs.declared.store.{answer.{Kind.{Kind}, Name.{Name}}, log.LogItem.{LogItem}}
use Rattle.cacache_store.specs.declared.store.answer.Kind.TheVariants as kinds
use Rattle.cacache_store.specs.declared.store.step.Step.TheVariants as steps
use Rattle.cacache_calls.specs.SingleSteps.{FailsAt}
use Rattle.cacache_laws.specs.trees.Temporary.{is_file}
use Rattle.cacache_keep.specs.{Reading.{is_gone}, Sweeping.{ListsFolder}}

-- ---- names in the index

-- whether it is a folder
abbrev pub is_folder : Kind → Bool
is_folder kinds.Folder = true
is_folder kind = false

-- a digit, or a letter from a to f
abbrev pub is_hex_digit : ℕ → Bool
is_hex_digit b = (nat_le 48 b && nat_le b 57) || (nat_le 97 b && nat_le b 102)

-- the name is so many hex digits
abbrev pub is_hex_name : ℕ → Name → Bool
is_hex_name digits n = (length n.name == digits) && list_all is_hex_digit n.name

-- whether it is a bucket or, above the last folders, a folder that leads to buckets
abbrev pub belongs : Bool → Name → Bool
belongs last n =
    if last then is_file n.kind && is_hex_name 36 n else is_folder n.kind && is_hex_name 2 n

-- ---- folders, one after another

-- a folder, and the names that its listing gave
abbrev pub Listed : Type 0
Listed = List ℕ × List Name

-- the log gained these listings, in turn
abbrev pub ListsInTurn : List Listed → Option (List LogItem) → Option (List LogItem) → Type 0
ListsInTurn [] old new = new ≡ old
ListsInTurn (l ∷ listings) old new =
    (next : Option (List LogItem)) × ListsFolder l.0 l.1 old next × ListsInTurn listings next new

-- the paths of what belongs there
abbrev pub parts_in : Bool → Listed → List (List ℕ)
parts_in last l = map (λ n. join l.0 n.name) (filter (belongs last) l.1)

-- the log gained a listing of each of these folders, with these paths of what belongs there
pub record ListsParts
    (last : Bool) (folders paths : List (List ℕ)) (old new : Option (List LogItem))
    : Type 0 where
  pub listings : List Listed
  pub each : map (λ l. l.0) listings ≡ folders
  pub listing : ListsInTurn listings old new
  pub which : paths ≡ flat_map (parts_in last) listings

-- the folder of buckets
abbrev pub index_area_in : List ℕ → List ℕ
index_area_in cache = join cache index_area

-- the index was listed, two levels of folders below it; these are the paths of the upper of those
-- folders, and of the buckets there
abbrev pub FindsBuckets : List ℕ → List (List ℕ) → List (List ℕ)
    → Option (List LogItem) → Option (List LogItem) → Type 0
FindsBuckets cache tops paths old new =
    (lows : List (List ℕ)) × (one two : Option (List LogItem))
    × ListsParts false (index_area_in cache ∷ []) tops old one
    × ListsParts false tops lows one two × ListsParts true lows paths two new

-- ---- errors

-- the first of these folders couldn't be listed, though it is there; or there is none, and memory
-- ran out
abbrev pub StopsNextPart :
    List (List ℕ) → Error → Option (List LogItem) → Option (List LogItem) → Type 0
StopsNextPart [] e old new = (e ≡ OutOfMemory) × (new ≡ old)
StopsNextPart (f ∷ rest) e old new = (is_gone e ≡ false) × FailsAt (steps.ReadDir f) e old new

-- some of these folders were listed, and the error ended the listing of the next
pub record StopsParts
    (folders : List (List ℕ)) (e : Error) (old new : Option (List LogItem)) : Type 0 where
  pub listings : List Listed
  pub rest : List (List ℕ)
  pub split : folders ≡ map (λ l. l.0) listings ++ rest
  pub between : Option (List LogItem)
  pub listing : ListsInTurn listings old between
  pub stop : StopsNextPart rest e between new

-- the error ended the listing of a folder of the index
abbrev pub StopsFinding :
    List ℕ → Error → Option (List LogItem) → Option (List LogItem) → Type 0
StopsFinding cache e old new =
    StopsParts (index_area_in cache ∷ []) e old new
    ⊎ ((tops : List (List ℕ)) × (one : Option (List LogItem))
    × ListsParts false (index_area_in cache ∷ []) tops old one
    × (StopsParts tops e one new
    ⊎ ((lows : List (List ℕ)) × (two : Option (List LogItem))
    × ListsParts false tops lows one two × StopsParts lows e two new)))
