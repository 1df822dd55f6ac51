-- The word `copy`.
use Rattle.std.specs.{Prelude.{◌++◌, ℕ, List, [], ◌∷◌, Option, Some, None}, Fmt.{decimal}}
use Rattle.cacache.specs.{Stores.{LogItem}, Calls.{Env, Reply, Copied, Calls, checked_export}}
use Rattle.cacache_calls.specs.declared.command.{How.TheVariants.{Copy}, Source.TheVariants.{Key}}
use Rattle.cacache_program.specs.Output.{PutsOutOrFails}

-- what is put out for a reply: how many bytes were copied
abbrev pub copied_text : Reply → Option (List ℕ)
copied_text (Copied count) = Some (decimal count ++ 10 ∷ [])
copied_text reply = None

-- the log gained a run of the copy, which verifies the content first, and its reply was printed
abbrev pub Copies :
    {S C N : Type 0} → (S → Option (List LogItem)) → List ℕ → List ℕ → List ℕ
    → Env S C N → Env S C N → Option (List ℕ) → Option (List ℕ) → ℕ → Type 0
Copies log cache key file old new before after status =
    (reply : Reply) × Calls log old new cache (checked_export Copy (Key key) file) reply
    × PutsOutOrFails (copied_text reply) before after status
