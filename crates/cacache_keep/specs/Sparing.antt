-- Where a key leads after a pruning of any store in memory that stands.
use Rattle.std.specs.Prelude.{◌≡◌, ℕ, List, Bool, Option, Result, Some, Contains, map}
use Rattle.cacache_core.specs.{declared.{errors.Error.{Error}, integrity.digest.Hash.{Hash}}, Paths.{Names, home_of}}
use Rattle.cacache_store.specs.declared.store.log.LogItem.{LogItem}
use Rattle.cacache_disk.specs.Replay.{IsLog}
use Rattle.cacache_entry.specs.Bucket.{Found}
use Rattle.cacache_calls.specs.State.{Site}
use Rattle.cacache_laws.specs.{Caches.{HasKey, LacksKey}, Beside.{found_under}, Standing.{IsStanding}}
use Rattle.cacache_keep.specs.{declared.{collecting.Collection.{Collection}, limits.Limits.{Limits}}, Collecting.{Told}, Confirming.{Leads}, Kept.{LeavesTree}, Limits.{Weight, entries_in}, Pruning.{PlansPrune, PrunesCache, StopsPruning, marked_in}}

-- everything stands where it may still; the key leads to the entry that it led to, and to the same
-- bytes
pub record StaysLed
    (cache key : List ℕ) (i : List Hash) (bytes : List ℕ) (old new : List LogItem) : Type 0 where
  pub standing : IsStanding cache new
  pub finds : found_under cache key new ≡ found_under cache key old
  pub has : HasKey cache key i bytes new

-- one of these entries has the key
abbrev pub HasKeyAmong : List Found → List ℕ → Type 0
HasKeyAmong entries key = Contains (map (λ f. f.key) entries) key

-- a plan of a pruning leaves the tree
abbrev pub PrunePlansLeave : Type 0
PrunePlansLeave =
    (limits : Limits) (site : Site) (home : Names) (entries : List Found)
    (dropped kept : List Weight) (odd : List (List ℕ)) (old new : List LogItem)
    → home_of site.cache ≡ Some home → IsLog new
    → PlansPrune limits site entries dropped kept odd (Some old) (Some new) → LeavesTree old new

-- after a pruning each key that led to bytes leads where it led, unless an entry has it that was dropped or left
abbrev pub PrunesSpareKeys : Type 0
PrunesSpareKeys =
    (limits : Limits) (told : Told) (limit : Option ℕ) (site : Site) (home : Names)
    (entries gone left : List Found) (dropped kept : List Weight) (c : Result Collection Error)
    (key bytes : List ℕ) (i : List Hash) (old new : List LogItem)
    → home_of site.cache ≡ Some home → IsLog new → IsStanding site.cache old
    → PrunesCache limits told limit site entries dropped kept gone left c (Some old) (Some new)
    → (HasKeyAmong gone key → ⊥) → (HasKeyAmong left key → ⊥) → HasKey site.cache key i bytes old
    → StaysLed site.cache key i bytes old new

-- a key that a dropped entry has, and none that was left, leads to nothing then
abbrev pub PrunesDropKeys : Type 0
PrunesDropKeys =
    (limits : Limits) (told : Told) (limit : Option ℕ) (site : Site) (home : Names)
    (entries gone left : List Found) (dropped kept : List Weight) (c : Result Collection Error)
    (key : List ℕ) (old new : List LogItem)
    → home_of site.cache ≡ Some home → IsLog new → IsStanding site.cache old
    → PrunesCache limits told limit site entries dropped kept gone left c (Some old) (Some new)
    → HasKeyAmong gone key → (HasKeyAmong left key → ⊥)
    → IsStanding site.cache new × LacksKey site.cache key new

-- each entry that was dropped or left was the one to which its key led
abbrev pub PrunesDropLed : Type 0
PrunesDropLed =
    (limits : Limits) (told : Told) (limit : Option ℕ) (site : Site) (home : Names)
    (entries gone left : List Found) (dropped kept : List Weight) (c : Result Collection Error)
    (entry : Found) (old new : List LogItem)
    → home_of site.cache ≡ Some home → IsLog new → IsStanding site.cache old
    → PrunesCache limits told limit site entries dropped kept gone left c (Some old) (Some new)
    → Contains (entries_in dropped) entry → Leads (entry, found_under site.cache entry.key old)

-- after one that an error ended each key leads where it led, unless it was dropped, or may have been
abbrev pub StoppedPrunesSpareKeys : Type 0
StoppedPrunesSpareKeys =
    (limits : Limits) (durable : Bool) (site : Site) (home : Names) (e : Error)
    (key bytes : List ℕ) (i : List Hash) (old new : List LogItem)
    → home_of site.cache ≡ Some home → IsLog new → IsStanding site.cache old
    → (stop : StopsPruning limits durable site e (Some old) (Some new))
    → (HasKeyAmong (marked_in limits durable site e (Some old) (Some new) stop) key → ⊥)
    → HasKey site.cache key i bytes old → StaysLed site.cache key i bytes old new
