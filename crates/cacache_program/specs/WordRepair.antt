-- The word `repair` of the program `cacache-keep`.
use Rattle.std.specs.Prelude.{◌≡◌, ◌⊎◌, ℕ, List, [], ◌∷◌, Option, codes, length}
use Rattle.cacache_core.specs.declared.integrity.digest.Hash.{Hash}
use Rattle.cacache.specs.{Stores.{LogItem}, Calls.{Env}, Entries.{Found}}
use Rattle.cacache_jobs.specs.JobStates.{site_of}
use Rattle.cacache_keep.specs.{declared.checking.OddLines.{OddLines}, Repairing.{RepairsWith, StopsRepairing}}
use Rattle.cacache_program.specs.{Counts.{counts_text}, KeepFails.{Fails}, Output.{PutsOut}}

-- how many contents were damaged, and how many keys led to none, a line each
abbrev pub repaired_text : ℕ → ℕ → List ℕ
repaired_text damaged dangling =
    counts_text ((codes "damaged", damaged) ∷ (codes "dangling", dangling) ∷ [])

module _ {S C N : Type 0} (log : S → Option (List LogItem)) (odd : OddLines) where
  -- the log gained a repair with this choice about odd lines, and its counts were printed
  abbrev pub PrintsRepair :
      List ℕ → Env S C N → Env S C N → Option (List ℕ) → Option (List ℕ) → ℕ → Type 0
  PrintsRepair cache old new before after status =
      (damaged : List (List Hash)) × (dangling : List Found)
      × RepairsWith odd (site_of cache old.base 0) damaged dangling
      (log old.store) (log new.store)
      × PutsOut (repaired_text (length damaged) (length dangling)) before after status

  -- an error ended the repair, and nothing was put out
  abbrev pub FailsToRepair :
      List ℕ → Env S C N → Env S C N → Option (List ℕ) → Option (List ℕ) → ℕ → Type 0
  FailsToRepair cache old new before after status =
      Fails log (StopsRepairing odd (site_of cache old.base 0)) old new before after status

  -- one of the two, and the numbers and the base folder stayed
  abbrev pub Repairs :
      List ℕ → Env S C N → Env S C N → Option (List ℕ) → Option (List ℕ) → ℕ → Type 0
  Repairs cache old new before after status =
      (new.names ≡ old.names) × (new.base ≡ old.base)
      × (PrintsRepair cache old new before after status
      ⊎ FailsToRepair cache old new before after status)
