-- The word `storm`.
use Rattle.std.specs.{Prelude.{◌≡◌, ◌⊎◌, ◌&&◌, ℕ, Bool, false, List, [], ◌∷◌, Option, Some, None, codes, nat_le}, Str.{all_ascii_digits, Parse.{digits_value}}}
use Rattle.cacache_program.specs.{Counts.{counts_text}, Output.{PutsOutOrFails}}

-- decimal digits alone, with a number that is at least 1 and at most this
abbrev pub is_number_to : ℕ → List ℕ → Bool
is_number_to most word =
    all_ascii_digits word && nat_le 1 (digits_value 10 word) && nat_le (digits_value 10 word) most

-- there may be 1 to 64 threads, and 1 to 1000 keys
abbrev pub is_storm : List ℕ → List ℕ → Bool
is_storm threads keys = is_number_to 64 threads && is_number_to 1000 keys

-- how many moves there were, and how many entries there are, a line each
abbrev pub storm_text : ℕ → ℕ → List ℕ
storm_text moves live =
    counts_text ((codes "moves", moves) ∷ (codes "live", live) ∷ [])

-- two numbers were put out, or the storm failed and nothing was
abbrev pub TellsStorm : Option (List ℕ) → Option (List ℕ) → ℕ → Type 0
TellsStorm before after status =
    ((moves live : ℕ) × PutsOutOrFails (Some (storm_text moves live)) before after status)
    ⊎ PutsOutOrFails None before after status

-- numbers out of range are wrong words; otherwise the storm was reported
pub record Storms (threads keys : List ℕ) (before after : Option (List ℕ)) (status : ℕ)
    : Type 0 where
  pub wrong : is_storm threads keys ≡ false → status ≡ 2
  pub told : (status ≡ 2) ⊎ TellsStorm before after status

-- so it was, and the environment stayed
abbrev pub StormsAlone : {E : Type 0} → List ℕ → List ℕ → E → E
    → Option (List ℕ) → Option (List ℕ) → ℕ → Type 0
StormsAlone threads keys old new before after status =
    Storms threads keys before after status × (new ≡ old)
