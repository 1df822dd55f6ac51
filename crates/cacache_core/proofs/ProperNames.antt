-- The names of contents, buckets and temporary files are proper names.
use Rattle.std.proofs.{Common.{◌≡◌, ◌==◌, ◌||◌, ◌<◌, ◌≤◌, ◌/◌, ◌%◌, ℕ, zero, suc, Bool, true, false, List, [], ◌∷◌, ◌++◌, length, take, drop, slice_index, codes, refl, arith, length-drop}, lemmas.{Bool.{ne_eqb}, List.{length-take-le, Elements.{All-nil, All-cons}, Folds.{list_any_at}}}}
use Rattle.std.specs.{List.{list_any}, Prelude.{All}, Int.{to_be_bytes, w64}}
use Rattle.base64.specs.GeneralPurpose.{IsBytes}
use Rattle.hex.{specs.Hex.{encode_with, encode_lower, lower_digits}, proofs.HexLemmas.{length-encode_with}}
use Rattle.cacache_core.proofs.JoinedNames.{none_of_fewer, or_parts}
use Rattle.cacache_core.specs.{declared.integrity.{algorithm.Algorithm.{Algorithm, TheVariants.{Sha1, Sha256, Sha384, Sha512}}, digest.Hash.{Hash}}, Integrity.{IsHash}, Laws.{IsKeyDigest, NamesAreProper}, Paths.{ends_name, IsProperName, content_area, index_area, temp_area, cut_digits}, Texts.{name_of}}

-- NUL, a dot or a slash
abbrev is_special : ℕ → Bool
is_special c = ends_name c || c == 46

no_end : (n : List ℕ) → list_any is_special n ≡ false → list_any ends_name n ≡ false
no_end n clear = none_of_fewer ends_name is_special (λ c h. (or_parts (ends_name c) (c == 46) h).0) n clear

some_length : (c : ℕ) (n : List ℕ) → (length (c ∷ n) == 0) ≡ false
some_length c n = ne_eqb (length (c ∷ n)) 0 (λ e. absurd (omega arith))

-- ---- a text that isn't empty and has none of these is a proper name

pub proper : (n : List ℕ) → 0 < length n → list_any is_special n ≡ false → IsProperName n
proper [] some clear = absurd (omega arith)
proper (c ∷ n) some clear =
    let h = or_parts (is_special c) (list_any is_special n) clear in
    let no_dot = (or_parts (ends_name c) (c == 46) h.0).1 in
    (rw (some_length c n, no_dot) refl, rw no_dot refl, no_end (c ∷ n) clear)

-- ---- hex digits

pub not_true : (b : Bool) → (b ≡ true → ⊥) → b ≡ false
not_true true h = absurd (h refl)
not_true false h = refl

digit_clear : (d : ℕ) → d < 16 → is_special (slice_index lower_digits d) ≡ false
digit_clear d small =
    not_true (is_special (slice_index lower_digits d)) (λ e. let differ : false ≡ true = list_any_at is_special lower_digits d 0 small e in cc)

hex_clear : (d : List ℕ) → IsBytes d → list_any is_special (encode_lower d) ≡ false
unfolding encode_with
hex_clear [] bytes = refl
hex_clear (b ∷ d) bytes =
    rw (digit_clear (b / 16) (omega (arith, bytes 0)), digit_clear (b % 16) (omega arith), hex_clear d (λ k. bytes (suc k))) refl

clear_take : (n : ℕ) (b : List ℕ) → list_any is_special b ≡ false → list_any is_special (take n b) ≡ false
clear_take zero b h = refl
clear_take (suc n) [] h = refl
clear_take (suc n) (c ∷ b) h = let p = or_parts (is_special c) (list_any is_special b) h in rw (p.0, clear_take n b p.1) refl

clear_drop : (n : ℕ) (b : List ℕ) → list_any is_special b ≡ false → list_any is_special (drop n b) ≡ false
clear_drop zero b h = h
clear_drop (suc n) [] h = refl
clear_drop (suc n) (c ∷ b) h = clear_drop n b (or_parts (is_special c) (list_any is_special b) h).1

proper_digits : (h : List ℕ) → 4 < length h → list_any is_special h ≡ false → All IsProperName (cut_digits h)
proper_digits h long clear =
    let first = proper (take 2 h) (omega (arith, length-take-le 2 h (omega arith))) (clear_take 2 h clear) in
    let second = proper (take 2 (drop 2 h)) (omega (arith, length-take-le 2 (drop 2 h) (omega (arith, length-drop 2 h)), length-drop 2 h)) (clear_take 2 (drop 2 h) (clear_drop 2 h clear)) in
    let last = proper (drop 4 h) (omega (arith, length-drop 4 h)) (clear_drop 4 h clear) in
    All-cons IsProperName (take 2 h) (take 2 (drop 2 h) ∷ drop 4 h ∷ []) first
    (All-cons IsProperName (take 2 (drop 2 h)) (drop 4 h ∷ []) second (All-cons IsProperName (drop 4 h) [] last (All-nil IsProperName)))

pub long_digits : (d : List ℕ) → 3 ≤ length d → 4 < length (encode_lower d)
long_digits d long = omega (arith, length-encode_with lower_digits d)

proper_hex : (d : List ℕ) → IsBytes d → 3 ≤ length d → All IsProperName (cut_digits (encode_lower d))
proper_hex d bytes long = proper_digits (encode_lower d) (long_digits d long) (hex_clear d bytes)

-- ---- contents

pub proper_content_folder : IsProperName content_area
proper_content_folder = proper content_area (omega arith) refl

proper_algorithm : (a : Algorithm) → IsProperName (name_of a)
proper_algorithm Sha1 = proper (codes "sha1") (omega arith) refl
proper_algorithm Sha256 = proper (codes "sha256") (omega arith) refl
proper_algorithm Sha384 = proper (codes "sha384") (omega arith) refl
proper_algorithm Sha512 = proper (codes "sha512") (omega arith) refl

-- the names of a content below the folder of contents
pub proper_content : (h : Hash) → IsHash h → All IsProperName (name_of h.algorithm ∷ cut_digits (encode_lower h.digest))
proper_content h is =
    All-cons IsProperName (name_of h.algorithm) (cut_digits (encode_lower h.digest)) (proper_algorithm h.algorithm) (proper_hex h.digest is.bytes is.long_enough)

-- ---- buckets

pub proper_bucket_folder : IsProperName index_area
proper_bucket_folder = proper index_area (omega arith) refl

pub proper_bucket : (d : List ℕ) → IsKeyDigest d → All IsProperName (cut_digits (encode_lower d))
proper_bucket d is = proper_hex d is.bytes (omega (arith, is.size))

-- ---- temporary files

pub proper_temp_folder : IsProperName temp_area
proper_temp_folder = proper temp_area (omega arith) refl

pub be_bytes : (n : ℕ) → IsBytes (to_be_bytes w64 n)
be_bytes n zero = omega arith
be_bytes n (suc zero) = omega arith
be_bytes n (suc (suc zero)) = omega arith
be_bytes n (suc (suc (suc zero))) = omega arith
be_bytes n (suc (suc (suc (suc zero)))) = omega arith
be_bytes n (suc (suc (suc (suc (suc zero))))) = omega arith
be_bytes n (suc (suc (suc (suc (suc (suc zero)))))) = omega arith
be_bytes n (suc (suc (suc (suc (suc (suc (suc zero))))))) = omega arith
be_bytes n (suc (suc (suc (suc (suc (suc (suc (suc i)))))))) = omega arith

-- a temporary file's name begins with a dot
proper_dotted : (b : List ℕ) → list_any is_special b ≡ false → IsProperName (codes ".tmp" ++ b)
proper_dotted b clear = (rw (some_length 46 (codes "tmp" ++ b)) refl, refl, no_end b clear)

pub proper_temp : (n : ℕ) → All IsProperName ((codes ".tmp" ++ encode_lower (to_be_bytes w64 n)) ∷ [])
proper_temp n =
    All-cons IsProperName (codes ".tmp" ++ encode_lower (to_be_bytes w64 n)) [] (proper_dotted (encode_lower (to_be_bytes w64 n)) (hex_clear (to_be_bytes w64 n) (be_bytes n))) (All-nil IsProperName)

pub names_are_proper : NamesAreProper
names_are_proper = record {
  contents = λ h is. All-cons IsProperName content_area (name_of h.algorithm ∷ cut_digits (encode_lower h.digest)) proper_content_folder (proper_content h is);
  buckets = λ d is. All-cons IsProperName index_area (cut_digits (encode_lower d)) proper_bucket_folder (proper_bucket d is);
  temporaries = λ n. All-cons IsProperName temp_area ((codes ".tmp" ++ encode_lower (to_be_bytes w64 n)) ∷ []) proper_temp_folder (proper_temp n);
}
