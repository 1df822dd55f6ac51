-- The word `write`.
use Rattle.std.specs.Prelude.{◌≡◌, ◌⊎◌, ℕ, List, [], ◌∷◌, ◌++◌, Option, IfSome, codes}
use Rattle.cacache.specs.{Integrities.{Algorithm, Sha256, integrity_under, integrity_text}, Stores.{LogItem}, Calls.{Env, Error, Reply, Stored, Refused, RunsPut, keyed_put}}
use Rattle.cacache_program.specs.{Output.{PutsOut}, Words.{Asked, Keyed}}

-- the text of the bytes' integrity under an algorithm, and a line feed
abbrev pub integrity_line : Algorithm → List ℕ → List ℕ
integrity_line a bytes = integrity_text (integrity_under a bytes) ++ 10 ∷ []

-- the bytes are all that the input had to give, if that is known
abbrev pub AreAllOf : Option (List ℕ) → List ℕ → Type 0
AreAllOf input bytes = IfSome input (λ given. bytes ≡ given)

-- what a put of these bytes puts out: the line of their integrity, or nothing if it was refused
abbrev pub TellsPut :
    Algorithm → List ℕ → Reply → Option (List ℕ) → Option (List ℕ) → ℕ → Type 0
TellsPut a bytes reply before after status =
    ((reply ≡ Stored (integrity_under a bytes))
    × PutsOut (integrity_line a bytes) before after status)
    ⊎ ((error : Error) × (reply ≡ Refused error) × (status ≡ 1) × (after ≡ before))

-- the log, the moments and the numbers are those of the environment, before and after
module _ {S C N : Type 0} (log : S → Option (List LogItem))
    (moments : C → Option (List ℕ)) (numbers : N → Option (List ℕ)) where
  -- all of the input was put under the key, and the reply was printed
  abbrev pub Puts :
      List ℕ → List ℕ → Option (List ℕ) → Env S C N → Env S C N
      → Option (List ℕ) → Option (List ℕ) → ℕ → Type 0
  Puts cache key input old new before after status =
      (bytes : List ℕ) × (reply : Reply) × AreAllOf input bytes
      × RunsPut log moments numbers old new cache (keyed_put Sha256 key bytes) reply
      × TellsPut Sha256 bytes reply before after status

  -- so it was, or nothing was done, since the input failed
  abbrev pub Writes :
      List ℕ → List ℕ → Option (List ℕ) → Env S C N → Env S C N
      → Option (List ℕ) → Option (List ℕ) → ℕ → Type 0
  Writes cache key input old new before after status =
      ((status ≡ 1) × (new ≡ old) × (after ≡ before))
      ⊎ Puts cache key input old new before after status

  -- if a write is asked for, it does so
  abbrev pub WritesAsked :
      Asked → Option (List ℕ) → Env S C N → Env S C N
      → Option (List ℕ) → Option (List ℕ) → ℕ → Type 0
  WritesAsked a input old new before after status =
      Keyed a (codes "write") (λ cache key. Writes cache key input old new before after status)
