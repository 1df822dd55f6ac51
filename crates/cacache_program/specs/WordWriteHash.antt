-- The word `write-hash`.
use Rattle.std.specs.Prelude.{◌≡◌, ◌≢◌, ◌⊎◌, ℕ, List, Option}
use Rattle.cacache_core.specs.Texts.{name_of}
use Rattle.cacache.specs.{Integrities.{Algorithm}, Stores.{LogItem}, Calls.{Env, Reply, Put, RunsNumbered, unkeyed_put}}
use Rattle.cacache_program.specs.WordWrite.{AreAllOf, TellsPut}

-- the log and the numbers are those of the environment, before and after
module _ {S C N : Type 0} (log : S → Option (List LogItem)) (numbers : N → Option (List ℕ)) where
  -- all of the input was put without a key, and the reply was printed
  abbrev pub PutsHash :
      Algorithm → List ℕ → Option (List ℕ) → Env S C N → Env S C N
      → Option (List ℕ) → Option (List ℕ) → ℕ → Type 0
  PutsHash a cache input old new before after status =
      (bytes : List ℕ) × (reply : Reply) × AreAllOf input bytes
      × RunsNumbered log numbers old new cache (Put (unkeyed_put a bytes)) reply
      × TellsPut a bytes reply before after status

  -- so it was, or nothing was done, since the input failed
  abbrev pub WritesUnder :
      Algorithm → List ℕ → Option (List ℕ) → Env S C N → Env S C N
      → Option (List ℕ) → Option (List ℕ) → ℕ → Type 0
  WritesUnder a cache input old new before after status =
      ((status ≡ 1) × (new ≡ old) × (after ≡ before))
      ⊎ PutsHash a cache input old new before after status

  -- so it was under the algorithm of that name; any other name is a wrong word
  abbrev pub WritesHash :
      Option (List ℕ) → List ℕ → List ℕ → Env S C N → Env S C N
      → Option (List ℕ) → Option (List ℕ) → ℕ → Type 0
  WritesHash input cache name old new before after status =
      ((a : Algorithm) × (name ≡ name_of a) × WritesUnder a cache input old new before after status)
      ⊎ (((a : Algorithm) → name ≢ name_of a) × (status ≡ 2))
