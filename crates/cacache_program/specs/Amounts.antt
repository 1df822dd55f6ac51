-- Numbers of bytes and of seconds, with units.
use Rattle.std.specs.{Prelude.{if◌then◌else◌, ◌&&◌, ◌==◌, ◌*◌, ◌-◌, ◌^◌, ℕ, List, Option, None, Some, codes, length, nat_lt, option_and_then, option_map, slice_index, take}, Str.{all_ascii_digits, Parse.{digits_value}}}
use Rattle.cacache_program.specs.{declared.keep.amounts.Measure.{Measure, TheVariants.{Bytes, Seconds}}, OptionTable.{is}}

-- how much the unit is that has this letter: K, M and G are powers of 1024 bytes; s, m, h and d are a
-- second, a minute, an hour and a day
abbrev pub unit_in : Measure → ℕ → Option ℕ
unit_in Bytes letter =
    if letter == 75 then Some 1024
    else (if letter == 77 then Some 1_048_576
    else (if letter == 71 then Some 1_073_741_824 else None))
unit_in Seconds letter =
    if letter == 115 then Some 1
    else (if letter == 109 then Some 60
    else (if letter == 104 then Some 3600
    else (if letter == 100 then Some 86400 else None)))

-- a number, if it has 64 bits
abbrev pub fitting : ℕ → Option ℕ
fitting n = if nat_lt n (2 ^ 64) then Some n else None

-- the number that decimal digits give, if there is one and nothing else, and it has 64 bits
abbrev pub number_in : List ℕ → Option ℕ
number_in digits =
    if all_ascii_digits digits && nat_lt 0 (length digits) then fitting (digits_value 10 digits) else None

-- the number that the digits before a letter give, in its unit; without a unit that of the whole word
abbrev pub scaled : Option ℕ → List ℕ → Option ℕ
scaled (Some unit) word =
    option_and_then (λ n. fitting (n * unit)) (number_in (take (length word - 1) word))
scaled None word = number_in word

-- the number that a word says
abbrev pub amount_in : Measure → List ℕ → Option ℕ
amount_in measure word = scaled (unit_in measure (slice_index word (length word - 1))) word

-- the limit that a word says: none if there is no word, or if it is `-`
abbrev pub limit_in : Measure → Option (List ℕ) → Option (Option ℕ)
limit_in measure None = Some None
limit_in measure (Some word) =
    if is word (codes "-") then Some None else option_map Some (amount_in measure word)
