-- The word `compact` of the program `cacache-keep`.
use Rattle.std.specs.Prelude.{◌≡◌, ◌⊎◌, ℕ, List, [], ◌∷◌, Bool, Option, codes}
use Rattle.cacache.specs.{Stores.{LogItem}, Calls.{Env}}
use Rattle.cacache_keep.specs.Compacting.{CompactsCache, StopsCompacting}
use Rattle.cacache_program.specs.{Counts.{counts_text}, KeepFails.{Fails}, Output.{PutsOut}}

-- how many buckets were written anew, and how many bytes that saved, a line each
abbrev pub compacted_text : ℕ → ℕ → List ℕ
compacted_text buckets bytes =
    counts_text ((codes "buckets", buckets) ∷ (codes "bytes", bytes) ∷ [])

module _ {S C N : Type 0} (log : S → Option (List LogItem)) (durable : Bool) where
  -- the log gained a compaction, durable or not, and its counts were printed
  abbrev pub PrintsCompaction :
      List ℕ → Env S C N → Env S C N → Option (List ℕ) → Option (List ℕ) → ℕ → Type 0
  PrintsCompaction cache old new before after status =
      (buckets bytes : ℕ)
      × CompactsCache durable cache buckets bytes (log old.store) (log new.store)
      × PutsOut (compacted_text buckets bytes) before after status

  -- an error ended the compaction, and nothing was put out
  abbrev pub FailsToCompact :
      List ℕ → Env S C N → Env S C N → Option (List ℕ) → Option (List ℕ) → ℕ → Type 0
  FailsToCompact cache old new before after status =
      Fails log (StopsCompacting durable cache) old new before after status

  -- one of the two, and the clock and the base folder stayed
  abbrev pub Compacts :
      List ℕ → Env S C N → Env S C N → Option (List ℕ) → Option (List ℕ) → ℕ → Type 0
  Compacts cache old new before after status =
      (new.clock ≡ old.clock) × (new.base ≡ old.base)
      × (PrintsCompaction cache old new before after status
      ⊎ FailsToCompact cache old new before after status)
