-- Numbers of decimal digits, as `parse` reads them.
use Rattle.std.proofs.{Common.{◌≡◌, ◌<◌, ◌^◌, ℕ, List, [], ◌∷◌, Result, Ok, Err, arith, length, suc, true, zero}, lemmas.{Bool.Decides.{nat_tests}, Str.{IsUtf8-from_ascii, Parse.{IsNumeralModel, digit_from_value, numerals_by_value, parse_digits, tells_all_ascii_digits}}}}
use Rattle.std.specs.{Prelude.{slice_index}, Result.{OkIff, result_ok}, Str.{IsUtf8, all_ascii_digits, Parse.{AllDigits, ParsesUnsigned, digits_value}}}
use Rattle.cacache_program.specs.Amounts.{number_in}

-- `all_ascii_digits` and `digits_value` tell what digits are
own : IsNumeralModel (λ ds. all_ascii_digits ds ≡ true) (digits_value 10)
own = numerals_by_value _ tells_all_ascii_digits

-- digits are ASCII
below_128 : (ds : List ℕ) → AllDigits 10 ds → (i : ℕ) → slice_index ds i < 128
below_128 [] all i = omega arith
below_128 (d ∷ ds) all zero = let range = digit_from_value d all.0 in omega (arith, range.1)
below_128 (d ∷ ds) all (suc i) = below_128 ds all.1 i

-- and so they are a text
pub digits_are_text : (ds : List ℕ) → all_ascii_digits ds ≡ true → IsUtf8 ds
digits_are_text ds all = IsUtf8-from_ascii ds (below_128 ds (own.to ds all))

-- what was read of digits is their number, if it has 64 bits
number_if : (ds : List ℕ) {E : Type 0} (r : Result ℕ E) → all_ascii_digits ds ≡ true → OkIff r ((0 < length ds) × (digits_value 10 ds < 2 ^ 64)) (digits_value 10 ds) → result_ok r ≡ number_in ds
number_if ds (Ok n) all is = grind (arith, nat_tests)
number_if ds (Err e) all is = grind (arith, nat_tests)

pub number_read : (ds : List ℕ) {E : Type 0} (r : Result ℕ E) → all_ascii_digits ds ≡ true → ParsesUnsigned 64 10 ds r → result_ok r ≡ number_in ds
number_read ds r all read = number_if ds r all (parse_digits own 64 ds r read all)
