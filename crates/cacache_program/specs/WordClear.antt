-- The word `clear`.
use Rattle.std.specs.Prelude.{◌≡◌, ℕ, List, Option}
use Rattle.cacache.specs.{Stores.{LogItem}, Calls.{Env, Reply, Clear, Calls}}
use Rattle.cacache_program.specs.Output.{status_of}

-- the log gained a run of the clearing, and its reply gives the status
abbrev pub Clears :
    {S C N : Type 0} → (S → Option (List LogItem)) → List ℕ → Env S C N → Env S C N → ℕ → Type 0
Clears log cache old new status =
    (reply : Reply) × Calls log old new cache Clear reply × (status ≡ status_of reply)
