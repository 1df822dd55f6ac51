-- The word `collect` of the program `cacache-keep`.
use Rattle.std.specs.Prelude.{◌≡◌, ◌⊎◌, ◌&&◌, ◌*◌, ◌-◌, ◌^◌, ℕ, Bool, true, false, not, List, [], ◌∷◌, Option, codes, is_none, length, min, option_map}
use Rattle.cacache_core.specs.declared.integrity.digest.Hash.{Hash}
use Rattle.cacache.specs.{Stores.{LogItem}, Calls.{Env, KeepsRest}}
use Rattle.cacache_jobs.specs.JobStates.{site_of}
use Rattle.cacache_keep.specs.{declared.{checking.OddLines.{OddLines, TheVariants.{Ignore, Refuse}}, collecting.Collection.{Collection}}, Collecting.{CollectsBy as CollectsTold, StopsCollectingBy, Told, told_by}, Grace.{LimitedBy}, Keeping.{CollectsWith, StopsCollecting}}
use Rattle.cacache_program.specs.{Counts.{counts_text}, KeepFails.{Fails}, Orders.{Order}, Output.{PutsOut}, Roots.{ReadsRoots, StopsRoots}}

-- ---- without options

-- how many contents were kept and dropped, a line each
abbrev pub collected_text : ℕ → ℕ → List ℕ
collected_text kept dropped =
    counts_text ((codes "kept", kept) ∷ (codes "dropped", dropped) ∷ [])

module _ {S C N : Type 0} (log : S → Option (List LogItem)) where
  -- the log gained a collection that refuses odd lines, and its counts were printed
  abbrev pub PrintsCollection :
      List ℕ → Env S C N → Env S C N → Option (List ℕ) → Option (List ℕ) → ℕ → Type 0
  PrintsCollection cache old new before after status =
      (kept : ℕ) × (dropped : List (List Hash))
      × CollectsWith Refuse (site_of cache old.base 0) kept dropped
      (log old.store) (log new.store)
      × PutsOut (collected_text kept (length dropped)) before after status

  -- an error ended the collection, and nothing was put out
  abbrev pub FailsToCollect :
      List ℕ → Env S C N → Env S C N → Option (List ℕ) → Option (List ℕ) → ℕ → Type 0
  FailsToCollect cache old new before after status =
      Fails log (StopsCollecting Refuse (site_of cache old.base 0)) old new before after status

  -- one of the two, and in the environment only the store may have changed
  abbrev pub CollectsUnused :
      List ℕ → Env S C N → Env S C N → Option (List ℕ) → Option (List ℕ) → ℕ → Type 0
  CollectsUnused cache old new before after status =
      KeepsRest old new
      × (PrintsCollection cache old new before after status
      ⊎ FailsToCollect cache old new before after status)

-- ---- with options

-- no option says how to collect
abbrev pub is_plain : Order → Bool
is_plain o = is_none o.grace && (is_none o.keep && (not o.durable && not o.anyway))

-- what is done about odd lines
abbrev pub odd_by : Bool → OddLines
odd_by true = Ignore
odd_by false = Refuse

-- a grace in milliseconds: 2 ^ 64 - 1 if there are more
abbrev pub millis_in : Option ℕ → Option ℕ
millis_in grace = option_map (λ s. min (s * 1000) (2 ^ 64 - 1)) grace

-- what the options tell a collection, with these further roots
abbrev pub told_with : Order → List (List Hash) → Told
told_with o roots = told_by (odd_by o.anyway) roots o.durable

-- how many contents had which fate, a line each
abbrev pub collection_text : Collection → List ℕ
collection_text c =
    counts_text ((codes "kept", c.kept) ∷ (codes "dropped", c.dropped)
    ∷ (codes "young", c.young) ∷ (codes "gone", c.gone) ∷ [])

module _ {S C N : Type 0} (log : S → Option (List LogItem)) (moments : C → Option (List ℕ)) where
  -- the log gained a collection that was told so, with this limit, and its counts were printed
  abbrev pub PrintsTally : Order → List (List Hash) → Option ℕ
      → Env S C N → Env S C N → Option (List ℕ) → Option (List ℕ) → ℕ → Type 0
  PrintsTally o roots limit old new before after status =
      (c : Collection)
      × CollectsTold (told_with o roots) limit (site_of o.cache old.base 0) c.kept
      (record { dropped = c.dropped; young = c.young; gone = c.gone }) (log old.store) (log new.store)
      × PutsOut (collection_text c) before after status

  -- so it did, or an error ended the collection; the limit is the clock's time less the grace
  pub record CollectsRooted (o : Order) (roots : List (List Hash))
      (old new : Env S C N) (before after : Option (List ℕ)) (status : ℕ) : Type 0 where
    pub rest : (new.names ≡ old.names) × (new.base ≡ old.base)
    pub limit : Option ℕ
    pub limited : LimitedBy moments (millis_in o.grace) old.clock new.clock limit
    pub told : PrintsTally o roots limit old new before after status
        ⊎ Fails log (StopsCollectingBy (told_with o roots) limit (site_of o.cache old.base 0))
        old new before after status

  -- the roots were read, and with them the cache was collected so; or they weren't, and nothing was
  -- put out
  abbrev pub CollectsBy :
      Order → Env S C N → Env S C N → Option (List ℕ) → Option (List ℕ) → ℕ → Type 0
  CollectsBy o old new before after status =
      ((roots : List (List Hash)) × (mid : Env S C N) × KeepsRest old mid
      × ReadsRoots o.keep roots (log old.store) (log mid.store)
      × CollectsRooted o roots mid new before after status)
      ⊎ (KeepsRest old new × Fails log (StopsRoots o.keep) old new before after status)

  -- with options if there are any
  abbrev pub CollectsAs :
      Bool → Order → Env S C N → Env S C N → Option (List ℕ) → Option (List ℕ) → ℕ → Type 0
  CollectsAs true o = CollectsUnused log o.cache
  CollectsAs false o = CollectsBy o
