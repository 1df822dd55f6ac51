-- How a word of the program `cacache-keep` fails.
use Rattle.std.specs.Prelude.{◌≡◌, ℕ, List, Option}
use Rattle.cacache.specs.{Stores.{LogItem}, Calls.{Env, Error}}

-- an error ended the call, as this says of the log, and nothing was put out
abbrev pub Fails :
    {S C N : Type 0} → (S → Option (List LogItem))
    → (Error → Option (List LogItem) → Option (List LogItem) → Type 0)
    → Env S C N → Env S C N → Option (List ℕ) → Option (List ℕ) → ℕ → Type 0
Fails log Stops old new before after status =
    (error : Error) × Stops error (log old.store) (log new.store)
    × (status ≡ 1) × (after ≡ before)
