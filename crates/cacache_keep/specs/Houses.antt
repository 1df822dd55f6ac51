-- What lies in its place stays there in a sweep and in a repair, on a store in memory.
use Rattle.std.specs.Prelude.{◌≡◌, ℕ, List, Some}
use Rattle.cacache_core.specs.{declared.integrity.digest.Hash.{Hash}, Paths.{Names, home_of}}
use Rattle.cacache_store.specs.declared.store.log.LogItem.{LogItem}
use Rattle.cacache_disk.specs.Replay.{tree_of, IsLog}
use Rattle.cacache_entry.specs.Bucket.{Found}
use Rattle.cacache_calls.specs.State.{Site}
use Rattle.cacache_laws.specs.trees.{Contents.{content_in}, Housed.{Housed}}
use Rattle.cacache_keep.specs.{Kept.{LeadsToGood}, Repairing.{RepairsCache}, Sweeping.{SweepsCache}}

-- a sweep leaves each thing in its place, and each entry in its key's bucket
abbrev pub SweepsHouse : Type 0
SweepsHouse =
    (cache : List ℕ) (home : Names) (files bytes : ℕ) (strange : List (List ℕ))
    (old new : List LogItem)
    → home_of cache ≡ Some home → IsLog new → Housed (Some home) (tree_of old)
    → SweepsCache cache files bytes strange (Some old) (Some new)
    → Housed (Some home) (tree_of new)

-- then a key that led to a good content leads to it, and the content is what it was
abbrev pub SweepsKeepGood : Type 0
SweepsKeepGood =
    (cache : List ℕ) (home : Names) (files bytes : ℕ) (strange : List (List ℕ))
    (old new : List LogItem) (key : List ℕ) (found : Found)
    → home_of cache ≡ Some home → IsLog new → Housed (Some home) (tree_of old)
    → SweepsCache cache files bytes strange (Some old) (Some new)
    → (led : LeadsToGood home (tree_of old) key found)
    → LeadsToGood home (tree_of new) key found
    × (content_in home (tree_of new) led.hash ≡ content_in home (tree_of old) led.hash)

-- a repair leaves each thing in its place too, and each entry in its key's bucket
abbrev pub RepairsHouse : Type 0
RepairsHouse =
    (site : Site) (home : Names) (damaged : List (List Hash)) (hidden : List Found)
    (old new : List LogItem)
    → home_of site.cache ≡ Some home → IsLog new → Housed (Some home) (tree_of old)
    → RepairsCache site damaged hidden (Some old) (Some new)
    → Housed (Some home) (tree_of new)
