-- Counts as they are printed.
use Rattle.std.specs.{Prelude.{◌++◌, ℕ, List, codes}, Borrow.{Bor}, Fmt.{decimal}, List.{flat_map}}

-- a name and its count in a line
abbrev pub count_line : List ℕ × ℕ → List ℕ
count_line (name, count) = name ++ (codes " " ++ (decimal count ++ codes "\n"))

-- a line each
abbrev pub counts_text : List (List ℕ × ℕ) → List ℕ
counts_text counts = flat_map count_line counts

-- a name that a reference leads to, and its count
abbrev pub count_view : Bor (List ℕ) × ℕ → List ℕ × ℕ
count_view count = (count.0.now, count.1)
