-- The word `touch` of the program `cacache-keep`.
use Rattle.std.specs.Prelude.{◌≡◌, ◌⊎◌, ℕ, Bool, true, false, List, Option, codes}
use Rattle.cacache.specs.{Stores.{LogItem}, Calls.{Env}}
use Rattle.cacache_jobs.specs.JobStates.{site_of}
use Rattle.cacache_keep.specs.Touching.{StopsTouching, Touches}
use Rattle.cacache_program.specs.{KeepFails.{Fails}, Output.{PutsOut}}

-- how many keys were touched
abbrev pub touched_text : Bool → List ℕ
touched_text true = codes "touched 1\n"
touched_text false = codes "touched 0\n"

module _ {S C N : Type 0} (log : S → Option (List LogItem)) (moments : C → Option (List ℕ)) where
  -- the key was touched, if it has an entry, and that was printed; or an error ended it, and nothing
  -- was put out. The numbers and the base folder stayed
  abbrev pub TouchesEntry :
      List ℕ → List ℕ → Env S C N → Env S C N → Option (List ℕ) → Option (List ℕ) → ℕ → Type 0
  TouchesEntry cache key old new before after status =
      (new.names ≡ old.names) × (new.base ≡ old.base)
      × (((touched : Bool) × Touches log moments cache key touched old new
      × PutsOut (touched_text touched) before after status)
      ⊎ Fails log (StopsTouching (site_of cache old.base 0) key) old new before after status)
