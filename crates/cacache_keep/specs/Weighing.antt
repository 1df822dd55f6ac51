-- How many bytes entries add to newer ones, over any store.
use Rattle.std.specs.{Prelude.{◌≡◌, ◌⊎◌, ◌++◌, ◌||◌, ℕ, List, [], ◌∷◌, Bool, true, false, Option, bytes_eq, is_some, map, not, reverse}, BTreeMap.{BTreeMap, get}, Cmp.Lexicographic.{slice_cmp}, Ordering.{nat_cmp}}
use Rattle.cacache_core.specs.declared.errors.Error.{Error, TheVariants.{OutOfMemory}}
use Rattle.cacache_store.specs.declared.store.log.LogItem.{LogItem}
use Rattle.cacache_entry.specs.Bucket.{Found}
use Rattle.cacache_calls.specs.Steps.{content_path}
use Rattle.cacache_keep.specs.{declared.weighing.Weighed.{Weighed}, Limits.{Weight, entries_in, weight_of}, Planning.{HidesSize, TellsSize}}

-- ---- paths that were asked for

-- whether the map has the path
abbrev pub has_path : {X : Type 0} → BTreeMap (List ℕ) X → List ℕ → Bool
has_path seen path = is_some (get (slice_cmp nat_cmp) seen path)

-- the path is new to the map, or not, and the map has it then
abbrev pub NotesPath :
    {X : Type 0} → List ℕ → Bool → BTreeMap (List ℕ) X → BTreeMap (List ℕ) X → Type 0
NotesPath path fresh old new =
    (has_path old path ≡ not fresh)
    × ((other : List ℕ) → has_path new other ≡ (bytes_eq path other || has_path old other))

-- whether one of these entries has its content at the path
abbrev pub lies_at : List ℕ → List Weight → List ℕ → Bool
lies_at cache [] path = false
lies_at cache (w ∷ weights) path =
    bytes_eq (content_path cache w.0.integrity) path || lies_at cache weights path

-- the map has the paths of their contents
abbrev pub HasPaths : {X : Type 0} → List ℕ → List Weight → BTreeMap (List ℕ) X → Type 0
HasPaths cache weights seen = (path : List ℕ) → has_path seen path ≡ lies_at cache weights path

-- ---- weights

-- an entry whose content a newer one has adds nothing; of another the log gained a question for the
-- size of its content
abbrev pub WeighsIf : Bool → List ℕ → Weight → Option (List LogItem) → Option (List LogItem) → Type 0
WeighsIf true cache w old new = (w.1 ≡ 0) × (new ≡ old)
WeighsIf false cache w old new = TellsSize cache w.0.integrity w.1 old new

-- so it is of this one, beside these newer ones
abbrev pub WeighsBeside :
    List ℕ → List Weight → Weight → Option (List LogItem) → Option (List LogItem) → Type 0
WeighsBeside cache newer w old new =
    WeighsIf (lies_at cache newer (content_path cache w.0.integrity)) cache w old new

-- so it is of each of these entries, the newest of which is the last, and is asked first
abbrev pub Weighs : List ℕ → List Weight → Option (List LogItem) → Option (List LogItem) → Type 0
Weighs cache [] old new = new ≡ old
Weighs cache (w ∷ newer) old new =
    (mid : Option (List LogItem)) × Weighs cache newer old mid × WeighsBeside cache newer w mid new

-- entries that were met from the newest on, the oldest first
abbrev pub in_line : List Weighed → List Weight
in_line met = map weight_of (reverse met)

-- ---- errors

-- memory ran out, or the newest of these entries has a content that didn't give its size
abbrev pub HidesNewest :
    List ℕ → List Found → Error → Option (List LogItem) → Option (List LogItem) → Type 0
HidesNewest cache older e old new =
    ((e ≡ OutOfMemory) × (new ≡ old))
    ⊎ ((first : List Found) × (next : Found) × (older ≡ first ++ next ∷ [])
    × HidesSize cache next.integrity e old new)

-- the newest of these entries were weighed, and the error ended the question for the next
pub record StopsWeighing
    (cache : List ℕ) (entries : List Found) (e : Error)
    (old new : Option (List LogItem)) : Type 0 where
  pub older : List Found
  pub weights : List Weight
  pub split : entries ≡ older ++ entries_in weights
  pub between : Option (List LogItem)
  pub weighing : Weighs cache weights old between
  pub stop : HidesNewest cache older e between new
