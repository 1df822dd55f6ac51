-- Every element that base64 text decodes to is a byte.
use Rattle.std.proofs.{Common.{◌≡◌, ◌+◌, ◌*◌, ◌==◌, ◌<◌, ℕ, zero, suc, List, [], ◌∷◌, ◌++◌, length, take, drop, slice_index, get_or, refl, subst, inl, inr, arith}, lemmas.{Bool.{cases_Bool}, List.{get_or-drop}}}
use Rattle.std.specs.declared.{option.Option.{Option, TheVariants.{None, Some}}, result.Result.{Result, TheVariants.{Ok, Err}}}
use Rattle.base64.specs.{declared.decode.DecodeError.{DecodeError}, Decode.{IsDecodeTable, decode_group, or_else, symbol_error, group_error, group_bytes, groups_error, groups_bytes, groups_before_last, no_leftover, push_leftover, scan_steps, scan_last, scan_bytes, lone_error, suffix_bytes, decode_outcome, decoded_bytes}, Engines.{standard}, GeneralPurpose.{decode_of, IsBytes}}
use Rattle.base64.proofs.{Decoding.{IsLeftover, IsLeftover_next}, Tables.{IsDecodeTable_from, are_tables_inverse}}

-- ---- parts of bytes are bytes

pub bytes_append : (a b : List ℕ) → IsBytes a → IsBytes b → IsBytes (a ++ b)
bytes_append [] b p q i = q i
bytes_append (x ∷ a) b p q zero = p 0
bytes_append (x ∷ a) b p q (suc i) = bytes_append a b (λ k. p (suc k)) q i

pub bytes_drop : (n : ℕ) (s : List ℕ) → IsBytes s → IsBytes (drop n s)
bytes_drop n s bytes i = let same : get_or (drop n s) i 0 ≡ get_or s (n + i) 0 = get_or-drop n s i 0 in omega (arith, same, bytes (n + i))

bytes_take : (n : ℕ) (s : List ℕ) → IsBytes s → IsBytes (take n s)
bytes_take zero s bytes i = omega arith
bytes_take (suc n) [] bytes i = omega arith
bytes_take (suc n) (x ∷ s) bytes zero = bytes 0
bytes_take (suc n) (x ∷ s) bytes (suc i) = bytes_take n s (λ k. bytes (suc k)) i

-- ---- whole groups

none_first : (x y : Option DecodeError) → or_else x y ≡ None → x ≡ None
none_first None y e = refl
none_first (Some x) y e = cc

none_second : (x y : Option DecodeError) → or_else x y ≡ None → y ≡ None
none_second None y e = e
none_second (Some x) y e = cc

small_symbol : (dec s : List ℕ) (i : ℕ) → IsDecodeTable dec → IsBytes s → symbol_error dec s i ≡ None → slice_index dec (slice_index s i) < 64
small_symbol dec s i table bytes none = elim (cases_Bool (slice_index dec (slice_index s i) == 255)) [
  | inl p ↦ absurd (cc (rw p at none))
  | inr p ↦ elim (table (slice_index s i) (bytes i)) [ inl f ↦ absurd (cc (rw f at p)) | inr l ↦ l ]
]

bytes-decode_group : (a b c d : ℕ) → a < 64 → b < 64 → c < 64 → d < 64 → IsBytes (decode_group a b c d)
bytes-decode_group a b c d p q r s zero = omega arith
bytes-decode_group a b c d p q r s (suc zero) = omega arith
bytes-decode_group a b c d p q r s (suc (suc zero)) = omega arith
bytes-decode_group a b c d p q r s (suc (suc (suc i))) = omega arith

bytes-group_bytes : (dec s : List ℕ) (i : ℕ) → IsDecodeTable dec → IsBytes s → group_error dec s i ≡ None → IsBytes (group_bytes dec s i)
bytes-group_bytes dec s i table bytes none =
    let later = none_second (symbol_error dec s i) _ none in
    let last = none_second (symbol_error dec s (i + 1)) _ later in
    bytes-decode_group _ _ _ _
    (small_symbol dec s i table bytes (none_first (symbol_error dec s i) _ none))
    (small_symbol dec s (i + 1) table bytes (none_first (symbol_error dec s (i + 1)) _ later))
    (small_symbol dec s (i + 2) table bytes (none_first (symbol_error dec s (i + 2)) _ last))
    (small_symbol dec s (i + 3) table bytes (none_second (symbol_error dec s (i + 2)) _ last))

bytes-groups_bytes : (dec s : List ℕ) (q : ℕ) → IsDecodeTable dec → IsBytes s → groups_error dec s q ≡ None → IsBytes (groups_bytes dec s q)
unfolding groups_error groups_bytes
bytes-groups_bytes dec s zero table bytes none i = omega arith
bytes-groups_bytes dec s (suc q) table bytes none i =
    bytes_append (groups_bytes dec s q) (group_bytes dec s (4 * q))
    (bytes-groups_bytes dec s q table bytes (none_first (groups_error dec s q) _ none))
    (bytes-group_bytes dec s (4 * q) table bytes (none_second (groups_error dec s q) _ none)) i

-- ---- the last group

by_result : {T E : Type 0} (r : Result T E) (P : Result T E → Type 0) → ((x : T) → r ≡ Ok x → P (Ok x)) → ((e : E) → r ≡ Err e → P (Err e)) → P r
by_result (Ok x) P ok err = ok x refl
by_result (Err e) P ok err = err e refl

inner : {T E : Type 0} (r : Result T E) (x y : T) → r ≡ Ok x → r ≡ Ok y → x ≡ y
inner r x y p q = cc

small_scan : (dec : List ℕ) (pad at : ℕ) (bs : List ℕ) (st fin : _) (i : ℕ) → IsDecodeTable dec → IsBytes bs → IsLeftover st i
    → scan_steps dec pad at (Ok st) i bs ≡ Ok fin → (k : ℕ) → slice_index fin.morsels k < 64
unfolding scan_steps
small_scan dec pad at [] st fin i table bytes held e k = rw (← inner _ st fin refl e) (held.3 k)
small_scan dec pad at (b ∷ bs) st fin i table bytes held e k =
    by_result (push_leftover dec pad at st i b)
    (λ r. scan_steps dec pad at r (i + 1) bs ≡ Ok fin → slice_index fin.morsels k < 64)
    (λ next p q.
    small_scan dec pad at bs next fin (i + 1) table (λ j. bytes (suc j))
    (IsLeftover_next dec pad at st i b next table held (bytes 0) p) q k)
    (λ x p q. absurd cc) e

zeros : (k : ℕ) → slice_index (0 ∷ 0 ∷ 0 ∷ 0 ∷ []) k < 64
zeros zero = omega arith
zeros (suc zero) = omega arith
zeros (suc (suc zero)) = omega arith
zeros (suc (suc (suc zero))) = omega arith
zeros (suc (suc (suc (suc k)))) = omega arith

no_leftover_held : IsLeftover no_leftover 0
no_leftover_held = (omega arith, omega arith, omega arith, zeros)

bytes-suffix_bytes : (dec : List ℕ) (pad at : ℕ) (s : List ℕ) → IsDecodeTable dec → IsBytes s → IsBytes (suffix_bytes dec pad at s)
bytes-suffix_bytes dec pad at s table bytes =
    by_result (scan_last dec pad at s) (λ r. IsBytes (scan_bytes r))
    (λ st p.
    let small = small_scan dec pad at (drop at s) no_leftover st 0 table (bytes_drop at s bytes) no_leftover_held p in
    bytes_take _ _ (bytes-decode_group _ _ _ _ (small 0) (small 1) (small 2) (small 3)))
    (λ x p i. omega arith)

-- ---- the whole text

outcome : (x : Option DecodeError) (d b : List ℕ) → decode_outcome x d ≡ Ok b → (x ≡ None) × (d ≡ b)
outcome None d b e = (refl, cc)
outcome (Some x) d b e = absurd cc

pub decoded_is_bytes : (s d : List ℕ) → IsBytes s → decode_of standard s ≡ Ok d → IsBytes d
decoded_is_bytes s d bytes e =
    let dec = standard.decode_table in
    let pad = standard.padding.value in
    let q = groups_before_last (length s) in
    let table = IsDecodeTable_from standard.encode_table dec (are_tables_inverse standard.encode_table dec pad standard.tables) in
    let parts = outcome _ (decoded_bytes dec pad s) d e in
    let later = none_second (lone_error dec pad s) _ parts.0 in
    subst IsBytes parts.1
    (bytes_append (groups_bytes dec s q) (suffix_bytes dec pad (4 * q) s)
    (bytes-groups_bytes dec s q table bytes (none_first (groups_error dec s q) _ later))
    (bytes-suffix_bytes dec pad (4 * q) s table bytes))
