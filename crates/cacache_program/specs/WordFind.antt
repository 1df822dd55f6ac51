-- The word `find`.
use Rattle.std.specs.Prelude.{ℕ, List, [], ◌∷◌, ◌++◌, Option, Some, None, codes}
use Rattle.cacache.specs.{Stores.{LogItem}, Calls.{Env, Reply, Find, LookedUp, Calls}, Entries.{Found}}
use Rattle.cacache_program.specs.{Output.{PutsOutOrFails}, PrintedEntries.{entry_text}}

-- the entry's text or `none`, and a line feed
abbrev pub found_line : Option Found → List ℕ
found_line None = codes "none\n"
found_line (Some f) = entry_text f ++ 10 ∷ []

-- what is put out for a reply
abbrev pub find_text : Reply → Option (List ℕ)
find_text (LookedUp found) = Some (found_line found)
find_text reply = None

-- the log gained a run of the lookup, and its reply was printed
abbrev pub PrintsFound :
    {S C N : Type 0} → (S → Option (List LogItem)) → List ℕ → List ℕ
    → Env S C N → Env S C N → Option (List ℕ) → Option (List ℕ) → ℕ → Type 0
PrintsFound log cache key old new before after status =
    (reply : Reply) × Calls log old new cache (Find key) reply
    × PutsOutOrFails (find_text reply) before after status
