-- The tokens that write the bytes of an entry.
use Rattle.std.specs.Prelude.{ℕ, List, [], ◌∷◌, decimal}
use Rattle.json.specs.Token.{Token, end_array, number}

-- bytes as numbers, up to the array's end
abbrev pub byte_tokens : List ℕ → List Token
byte_tokens [] = end_array ∷ []
byte_tokens (b ∷ bs) = number (decimal b) ∷ byte_tokens bs
