-- The word `remove`.
use Rattle.std.specs.Prelude.{◌≡◌, ℕ, List, Option, None}
use Rattle.cacache.specs.{Stores.{LogItem}, Calls.{Env, Reply, Delete, RunsTimed, delete_of}}
use Rattle.cacache_program.specs.Output.{status_of}

-- the log gained a run of the deletion, and its reply gives the status
abbrev pub PrintsRemoval :
    {S C N : Type 0} → (S → Option (List LogItem)) → (C → Option (List ℕ))
    → List ℕ → List ℕ → Env S C N → Env S C N → ℕ → Type 0
PrintsRemoval log moments cache key old new status =
    (reply : Reply)
    × RunsTimed log moments None old new cache (λ moment. Delete (delete_of key moment)) reply
    × (status ≡ status_of reply)
