-- The word `read`.
use Rattle.std.specs.Prelude.{ℕ, List, Option, Some, None}
use Rattle.cacache.specs.{Stores.{LogItem}, Calls.{Env, Reply, Get, Read, Calls}}
use Rattle.cacache_program.specs.Output.{PutsOutOrFails}

-- what is put out for a reply: the bytes alone
abbrev pub read_text : Reply → Option (List ℕ)
read_text (Read bytes) = Some bytes
read_text reply = None

-- the log gained a run of the read, and its reply was printed
abbrev pub Reads :
    {S C N : Type 0} → (S → Option (List LogItem)) → List ℕ → List ℕ
    → Env S C N → Env S C N → Option (List ℕ) → Option (List ℕ) → ℕ → Type 0
Reads log cache key old new before after status =
    (reply : Reply) × Calls log old new cache (Get key) reply
    × PutsOutOrFails (read_text reply) before after status
