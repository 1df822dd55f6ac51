-- The words of a command line.
use Rattle.std.specs.Prelude.{◌≡◌, ◌≢◌, ℕ, List, [], ◌∷◌, Option, None, Some, IfNone, IfSome, MatchOption, String, string_bytes, codes}

-- the first word is `--why`
abbrev pub AsksWhy : {A : Type 0} → List (String A) → Type 0
AsksWhy [] = ⊥
AsksWhy (a ∷ more) = string_bytes a ≡ codes "--why"

-- a command's name, its cache and its key, if there is one; for a storm the threads and the keys
pub record Asked : Type 0 where
  pub name : List ℕ
  pub cache : List ℕ
  pub key : Option (List ℕ)

-- what asks for nothing
abbrev pub nothing_asked : Asked
nothing_asked = record { name = []; cache = []; key = None }

-- what these three ask for
abbrev pub these_asked : List ℕ → List ℕ → Option (List ℕ) → Asked
these_asked name cache key = record { name = name; cache = cache; key = key }

-- two words are a name and a cache, three also a key; any other count asks for nothing
abbrev pub asked_of : {A : Type 0} → List (String A) → Asked
asked_of [] = nothing_asked
asked_of (a ∷ []) = nothing_asked
asked_of (a ∷ b ∷ []) = record { name = string_bytes a; cache = string_bytes b; key = None }
asked_of (a ∷ b ∷ c ∷ []) =
    record { name = string_bytes a; cache = string_bytes b; key = Some (string_bytes c) }
asked_of (a ∷ b ∷ c ∷ d ∷ more) = nothing_asked

-- if that name is asked for with a cache and a key, P holds of these
abbrev pub Keyed : Asked → List ℕ → (List ℕ → List ℕ → Type 0) → Type 0
Keyed a name P = IfSome a.key (λ key. a.name ≡ name → P a.cache key)

-- if that name is asked for with a cache alone, P holds of it
abbrev pub Unkeyed : Asked → List ℕ → (List ℕ → Type 0) → Type 0
Unkeyed a name P = IfNone a.key (a.name ≡ name → P a.cache)

-- if that name is asked for with a cache and a key, P holds of these, and of what it did to the
-- environment and the output
abbrev pub KeyedDoes :
    {E : Type 0} → Asked → List ℕ
    → (List ℕ → List ℕ → E → E → Option (List ℕ) → Option (List ℕ) → ℕ → Type 0)
    → E → E → Option (List ℕ) → Option (List ℕ) → ℕ → Type 0
KeyedDoes a name P old new before after status =
    Keyed a name (λ cache key. P cache key old new before after status)

-- the same for a name with a cache alone
abbrev pub UnkeyedDoes :
    {E : Type 0} → Asked → List ℕ
    → (List ℕ → E → E → Option (List ℕ) → Option (List ℕ) → ℕ → Type 0)
    → E → E → Option (List ℕ) → Option (List ℕ) → ℕ → Type 0
UnkeyedDoes a name P old new before after status =
    Unkeyed a name (λ cache. P cache old new before after status)

-- the name is none that goes with one word more
abbrev pub IsNoUnkeyed : List ℕ → Type 0
IsNoUnkeyed name = (name ≢ codes "ls") × (name ≢ codes "clear")

-- the name is none that goes with two words more
abbrev pub IsNoKeyed : List ℕ → Type 0
IsNoKeyed name =
    (name ≢ codes "write") × (name ≢ codes "read") × (name ≢ codes "find") × (name ≢ codes "remove")
    × (name ≢ codes "storm")

-- what is asked for is nothing that the program knows
abbrev pub IsWrong : Asked → Type 0
IsWrong a = MatchOption a.key (IsNoUnkeyed a.name) (λ key. IsNoKeyed a.name)
