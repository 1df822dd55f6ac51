-- Where a key leads after a collection of any store that stands, and after later calls that spare it.
use Rattle.std.specs.Prelude.{◌≡◌, ℕ, List, Option, Some, Contains, filter_map}
use Rattle.cacache_core.specs.{declared.{errors.Error.{Error}, integrity.digest.Hash.{Hash}}, Paths.{Names, home_of}}
use Rattle.cacache_store.specs.declared.store.log.LogItem.{LogItem}
use Rattle.cacache_disk.specs.Replay.{IsLog}
use Rattle.cacache_calls.specs.State.{Site}
use Rattle.cacache_laws.specs.{Caches.{HasContent, HasKey}, Beside.{found_under}, Standing.{IsStanding}, trees.Later.{AllSpare, Later, StaysRead, written}}
use Rattle.cacache_keep.specs.{declared.dropping.Tally.{Tally}, Collecting.{CollectsBy, StopsCollectingBy, Told}, Keeping.{Collects}}

-- the log gained a collection
abbrev pub IsCollected : Site → List LogItem → List LogItem → Type 0
IsCollected site old new =
    (kept : ℕ) × (dropped : List (List Hash)) × Collects site kept dropped (Some old) (Some new)

-- everything stands where it may still; each key leads to the entry that it led to, and to the bytes
pub record KeepsLed (cache : List ℕ) (old new : List LogItem) : Type 0 where
  pub standing : IsStanding cache new
  pub finds : (key : List ℕ) → found_under cache key new ≡ found_under cache key old
  pub key : (key bytes : List ℕ) (i : List Hash)
      → HasKey cache key i bytes old → HasKey cache key i bytes new

-- so it is after a collection of a store that stands, whatever its contents are
abbrev pub CollectionsKeepLed : Type 0
CollectionsKeepLed =
    (site : Site) (home : Names) (old new : List LogItem) → home_of site.cache ≡ Some home
    → IsLog new → IsStanding site.cache old → IsCollected site old new
    → KeepsLed site.cache old new

-- after later calls that spare a key, it leads to the same entry and the same bytes, or to one of the
-- texts that were written since, if that meets its integrity too. A read by the key gives them
abbrev pub CollectedKeysStay : Type 0
CollectedKeysStay =
    (site : Site) (home : Names) (key : List ℕ) (i : List Hash) (bytes : List ℕ)
    (later : List Later) (old mid new : List LogItem) → home_of site.cache ≡ Some home
    → IsLog mid → IsStanding site.cache old → HasKey site.cache key i bytes old
    → IsCollected site old mid → AllSpare site.cache key i later mid new
    → StaysRead site.cache key i bytes (filter_map written later) old new

-- ---- a collection with options

-- it leaves such a store likewise, whatever it is told
abbrev pub OptionsKeepLed : Type 0
OptionsKeepLed =
    (told : Told) (limit : Option ℕ) (site : Site) (home : Names) (kept : ℕ) (t : Tally)
    (old new : List LogItem) → home_of site.cache ≡ Some home → IsLog new
    → IsStanding site.cache old → CollectsBy told limit site kept t (Some old) (Some new)
    → KeepsLed site.cache old new

-- and so does one that an error ended
abbrev pub StoppedOptionsKeepLed : Type 0
StoppedOptionsKeepLed =
    (told : Told) (limit : Option ℕ) (site : Site) (home : Names) (e : Error)
    (old new : List LogItem) → home_of site.cache ≡ Some home → IsLog new
    → IsStanding site.cache old → StopsCollectingBy told limit site e (Some old) (Some new)
    → KeepsLed site.cache old new

-- the bytes under the integrity of a further root stay
abbrev pub RootsStay : Type 0
RootsStay =
    (told : Told) (limit : Option ℕ) (site : Site) (home : Names) (kept : ℕ) (t : Tally)
    (i : List Hash) (bytes : List ℕ) (old new : List LogItem) → home_of site.cache ≡ Some home
    → IsLog new → IsStanding site.cache old
    → CollectsBy told limit site kept t (Some old) (Some new) → Contains told.roots i
    → HasContent site.cache i bytes old → HasContent site.cache i bytes new
