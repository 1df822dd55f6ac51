-- The word `tidy` of the program `cacache-keep`.
use Rattle.std.specs.Prelude.{◌≡◌, ◌≢◌, ◌⊎◌, ◌||◌, ℕ, Bool, true, false, List, Option, is_some}
use Rattle.cacache.specs.{Stores.{LogItem}, Calls.{Env}}
use Rattle.cacache_program.specs.{Orders.{Order}, WordCollect.{CollectsBy}, WordCompact.{Compacts}, WordPrune.{Prunes}, WordSweep.{Sweeps}}

-- the first was done and failed, or it ended with status 0 and the second was done after it
abbrev pub Then : {E : Type 0}
    → (E → E → Option (List ℕ) → Option (List ℕ) → ℕ → Type 0)
    → (E → E → Option (List ℕ) → Option (List ℕ) → ℕ → Type 0)
    → E → E → Option (List ℕ) → Option (List ℕ) → ℕ → Type 0
Then {E = E} First Second old new before after status =
    ((status ≢ 0) × First old new before after status)
    ⊎ ((mid : E) × (between : Option (List ℕ)) × First old mid before between 0
    × Second mid new between after status)

-- there is a limit
abbrev pub is_limited : Order → Bool
is_limited o = is_some o.size || is_some o.age

module _ {S C N : Type 0} (log : S → Option (List LogItem)) (moments : C → Option (List ℕ)) where
  -- the cache was pruned if there is a limit; otherwise nothing was done
  abbrev pub PrunesIf :
      Bool → Order → Env S C N → Env S C N → Option (List ℕ) → Option (List ℕ) → ℕ → Type 0
  PrunesIf true o old new before after status =
      Prunes log moments o old new before after status
  PrunesIf false o old new before after status =
      (new ≡ old) × (after ≡ before) × (status ≡ 0)

  -- it was compacted, and then collected
  abbrev pub Settles :
      Order → Env S C N → Env S C N → Option (List ℕ) → Option (List ℕ) → ℕ → Type 0
  Settles o = Then (Compacts log false o.cache) (CollectsBy log moments o)

  -- before that it was pruned, if there is a limit
  abbrev pub Trims :
      Order → Env S C N → Env S C N → Option (List ℕ) → Option (List ℕ) → ℕ → Type 0
  Trims o = Then (PrunesIf (is_limited o) o) (Settles o)

  -- and before that swept
  abbrev pub Tidies :
      Order → Env S C N → Env S C N → Option (List ℕ) → Option (List ℕ) → ℕ → Type 0
  Tidies o = Then (Sweeps log o.cache) (Trims o)
