-- What a collection with options does, over any store.
use Rattle.std.specs.Prelude.{◌≡◌, ◌⊎◌, ◌↔◌, ◌+◌, ◌-◌, ◌^◌, ℕ, List, Bool, Option, Some, Result, Contains, IfErr, IfOk, length, map, min}
use Rattle.cacache_core.specs.{declared.{errors.Error.{Error, TheVariants.{OutOfMemory}}, integrity.digest.Hash.{Hash}}, Integrity.{address}}
use Rattle.cacache_store.specs.declared.store.log.LogItem.{LogItem}
use Rattle.cacache_calls.specs.State.{Site}
use Rattle.cacache_keep.specs.{declared.{checking.OddLines.{OddLines}, collecting.Collection.{Collection}, dropping.Tally.{Tally}}, Calls.{AreOthers}, Checking.{Allows, RefusesOdd, odd_in}, Dropping.{DropsAll, StopsDropping}, Keeping.{Chooses, StopsEarly}, Syncing.{StopsIndexSync, SyncsIndex}}

-- these are the ones of the addresses that no root has, in their order
abbrev pub SparesRoots : List (List Hash) → List (List Hash) → List (List Hash) → Type 0
SparesRoots roots unused rest =
    (live hashes : List Hash) × (map Some hashes ≡ map address roots)
    × ((h : Hash) → Contains live h ↔ Contains hashes h) × AreOthers live unused rest

-- what a collection is told: about odd lines and further roots, and whether it is durable
pub record Told : Type 0 where
  pub odd : OddLines
  pub roots : List (List Hash)
  pub durable : Bool

-- it is told these
abbrev pub told_by : OddLines → List (List Hash) → Bool → Told
told_by odd roots durable = record { odd = odd; roots = roots; durable = durable }

-- the addresses that no entry has are chosen as always. Those of further roots stay. If it is durable, the
-- index is synced. Then each of the others is removed, if its file is old enough
pub record CollectsBy
    (told : Told) (limit : Option ℕ) (site : Site) (kept : ℕ) (t : Tally)
    (old new : Option (List LogItem)) : Type 0 where
  pub live : ℕ
  pub unused : List (List Hash)
  pub chosen : Option (List LogItem)
  pub choosing : Chooses site live unused old chosen
  pub allowed : Allows told.odd (odd_in choosing.listing.2.0)
  pub rest : List (List Hash)
  pub sparing : SparesRoots told.roots unused rest
  pub counted : kept ≡ min (live + (length unused - length rest)) (2 ^ 64 - 1)
  pub synced : Option (List LogItem)
  pub syncing : SyncsIndex told.durable site.cache chosen synced
  pub dropping : DropsAll limit site.cache rest t synced new

-- the fates that a collection counts
abbrev pub tally_of : Collection → Tally
tally_of c = record { dropped = c.dropped; young = c.young; gone = c.gone }

-- exactly what no entry or root names is removed, if it is old enough; a durable one syncs the index first
abbrev pub CollectsAs :
    Told → Option ℕ → Site → Collection → Option (List LogItem) → Option (List LogItem) → Type 0
CollectsAs told limit site c old new = CollectsBy told limit site c.kept (tally_of c) old new

-- ---- errors

-- the error ended the sync of the index, or a removal after it
abbrev pub StopsRest : Told → Option ℕ → Site → List (List Hash) → Error
    → Option (List LogItem) → Option (List LogItem) → Type 0
StopsRest told limit site rest e old new =
    StopsIndexSync told.durable site.cache e old new
    ⊎ ((synced : Option (List LogItem)) × SyncsIndex told.durable site.cache old synced
    × StopsDropping limit site.cache rest e synced new)

-- odd lines in these buckets are refused before any removal; or memory ran out; or the error came later
abbrev pub StopsChosen : Told → Option ℕ → Site → List (List ℕ) → List (List Hash) → Error
    → Option (List LogItem) → Option (List LogItem) → Type 0
StopsChosen told limit site odd unused e old new =
    (RefusesOdd told.odd odd e × (new ≡ old))
    ⊎ (((e ≡ OutOfMemory) × (new ≡ old))
    ⊎ ((rest : List (List Hash)) × Allows told.odd odd × SparesRoots told.roots unused rest
    × StopsRest told limit site rest e old new))

-- the error ended the choice, or what came after it
abbrev pub StopsCollectingBy : Told → Option ℕ → Site → Error
    → Option (List LogItem) → Option (List LogItem) → Type 0
StopsCollectingBy told limit site e old new =
    StopsEarly site e old new
    ⊎ ((live : ℕ) × (unused : List (List Hash)) × (chosen : Option (List LogItem))
    × (c : Chooses site live unused old chosen)
    × StopsChosen told limit site (odd_in c.listing.2.0) unused e chosen new)

-- the log gained a collection with this result
abbrev pub EndsCollecting : Told → Option ℕ → Site → Result Collection Error
    → Option (List LogItem) → Option (List LogItem) → Type 0
EndsCollecting told limit site r old new =
    IfOk r (λ c. CollectsAs told limit site c old new)
    × IfErr r (λ e. StopsCollectingBy told limit site e old new)
