-- Names as a list prints them, each on one line.
use Rattle.std.specs.{Prelude.{◌++◌, ◌-◌, ◌==◌, ℕ, List, [], ◌∷◌, codes, cond, nat_lt}, List.{flat_map}, Char.{digit_char}}

-- a control character by its two hex digits
abbrev pub escaped_control : ℕ → List ℕ
escaped_control n =
    cond (nat_lt n 16) (codes "\\x0" ++ digit_char n ∷ []) (codes "\\x1" ++ digit_char (n - 16) ∷ [])

-- a backslash twice, a control character as `\x` and two hex digits, any other byte as it is
abbrev pub escaped_byte : ℕ → List ℕ
escaped_byte n =
    cond (n == 92) (codes "\\\\")
    (cond (n == 127) (codes "\\x7f") (cond (nat_lt n 32) (escaped_control n) (n ∷ [])))

-- a name, byte by byte
abbrev pub escaped : List ℕ → List ℕ
escaped name = flat_map escaped_byte name
