-- Names of paths: how digits are cut, and that no path's names are a prefix of another's.
use Rattle.std.proofs.{Common.{◌≡◌, ◌*◌, ◌+◌, ℕ, zero, suc, ◌≤◌, List, [], ◌∷◌, Ok, length, get_or, take, drop, refl, sym, ap, ◌∙◌, arith, length-take, length-append, ◌/◌, slice_index, ◌<◌, ◌++◌, ◌%◌, append_assoc, append-nil}, lemmas.List.{take_all, drop_all, drop_more}}
use Rattle.std.specs.Int.{w32, to_be_bytes}
use Rattle.base64.specs.GeneralPurpose.{IsBytes}
use Rattle.sha1.specs.Sha1.{sha1, digest_bytes, hash_after, padded_message}
use Rattle.cacache_core.proofs.Decoded.{bytes_append}
use Rattle.cacache_core.specs.{Laws.{KeysHaveDigests, NoneBegins, KindsAreApart}, Paths.{content_area, index_area, temp_area, content_names, bucket_names_of, temp_names, Begins, AreApart}}
use Rattle.hex.{specs.Hex.{encode_with, encode_lower, lower_digits, decode_of}, proofs.HexLemmas.{decode_of-encode_lower}}

-- the digits of the first byte
pub digits_first : (d : List ℕ) → 2 ≤ length d → take 2 (encode_lower d) ≡ encode_lower (take 1 d)
unfolding encode_with
digits_first [] h = absurd (omega arith)
digits_first (a ∷ d) h = refl

-- the digits of the second byte
pub digits_second : (d : List ℕ) → 2 ≤ length d → take 2 (drop 2 (encode_lower d)) ≡ encode_lower (take 1 (drop 1 d))
unfolding encode_with
digits_second [] h = absurd (omega arith)
digits_second (a ∷ []) h = absurd (omega arith)
digits_second (a ∷ b ∷ d) h = refl

-- the digits of the rest
pub digits_rest : (d : List ℕ) → 2 ≤ length d → drop 4 (encode_lower d) ≡ encode_lower (drop 2 d)
unfolding encode_with
digits_rest [] h = absurd (omega arith)
digits_rest (a ∷ []) h = absurd (omega arith)
digits_rest (a ∷ b ∷ d) h = refl

-- ---- digits appended to a text, byte by byte

pub digits_more : (t old new bytes : List ℕ) (k : ℕ) → k < length bytes
    → new ≡ (t ++ slice_index lower_digits (slice_index bytes k / 16) ∷ []) ++ slice_index lower_digits (slice_index bytes k % 16) ∷ []
    → t ++ encode_lower (drop k bytes) ≡ old ++ encode_lower bytes → new ++ encode_lower (drop (k + 1) bytes) ≡ old ++ encode_lower bytes
unfolding encode_with
digits_more t old new bytes k more is before =
    let rest = encode_lower (drop (k + 1) bytes) in
    let high = slice_index lower_digits (slice_index bytes k / 16) in
    let low = slice_index lower_digits (slice_index bytes k % 16) in
    ap (λ (l : List ℕ). l ++ rest) is
    ∙ append_assoc (t ++ high ∷ []) (low ∷ []) rest
    ∙ append_assoc t (high ∷ []) (low ∷ rest)
    ∙ ap (λ (l : List ℕ). t ++ encode_lower l) (sym (drop_more bytes k 0 more))
    ∙ before

pub digits_done : (t old bytes : List ℕ) (k : ℕ) → length bytes ≤ k
    → t ++ encode_lower (drop k bytes) ≡ old ++ encode_lower bytes → t ≡ old ++ encode_lower bytes
unfolding encode_with
digits_done t old bytes k done before =
    sym (append-nil t) ∙ ap (λ (l : List ℕ). t ++ encode_lower l) (sym (drop_all k bytes done)) ∙ before

-- ---- equal digits come from equal bytes

pub same_bytes : (a b : List ℕ) → IsBytes a → IsBytes b → encode_lower a ≡ encode_lower b → a ≡ b
same_bytes a b p q e =
    let same : Ok a ≡ Ok b = sym (decode_of-encode_lower a p) ∙ ap decode_of e ∙ decode_of-encode_lower b q in cc

-- ---- the digest of a key consists of bytes

word_bytes : (n : ℕ) → IsBytes (to_be_bytes w32 n)
word_bytes n zero = omega arith
word_bytes n (suc zero) = omega arith
word_bytes n (suc (suc zero)) = omega arith
word_bytes n (suc (suc (suc zero))) = omega arith
word_bytes n (suc (suc (suc (suc i)))) = omega arith

words_bytes : (h : List ℕ) (n : ℕ) → IsBytes (digest_bytes h n)
unfolding digest_bytes
words_bytes h zero i = omega arith
words_bytes h (suc n) i =
    bytes_append (digest_bytes h n) (to_be_bytes w32 (slice_index h n)) (words_bytes h n) (word_bytes (slice_index h n)) i

pub sha1_bytes : (m : List ℕ) → IsBytes (sha1 m)
unfolding sha1
sha1_bytes m = words_bytes (hash_after (padded_message m) (length (padded_message m) / 64)) 5

length-digest_bytes : (h : List ℕ) (n : ℕ) → length (digest_bytes h n) ≡ n * 4
unfolding digest_bytes
length-digest_bytes h zero = refl
length-digest_bytes h (suc n) = omega (arith, length-append (digest_bytes h n) (to_be_bytes w32 (slice_index h n)), length-digest_bytes h n)

length-sha1 : (m : List ℕ) → length (sha1 m) ≡ 20
unfolding sha1
length-sha1 m = length-digest_bytes (hash_after (padded_message m) (length (padded_message m) / 64)) 5

pub keys_have_digests : KeysHaveDigests
keys_have_digests key = record { bytes = sha1_bytes key; size = length-sha1 key }

-- ---- no path's names are a prefix of another's

shorter : (xs ys : List (List ℕ)) (n : ℕ) → length xs ≡ length ys → take n xs ≡ ys → xs ≡ ys
shorter xs ys n len e =
    let same : length (take n xs) ≡ length ys = ap length e in sym (take_all n xs (omega (arith, length-take n xs))) ∙ e

pub none_begins : NoneBegins
none_begins = record {
  contents = λ h g b. sym (shorter (content_names g) (content_names h) b.count refl b.same);
  buckets = λ d e b. sym (shorter (bucket_names_of e) (bucket_names_of d) b.count refl b.same);
  temporaries = λ n m b. sym (shorter (temp_names m) (temp_names n) b.count refl b.same);
}

first_kept : (n : ℕ) (x y : List ℕ) (xs ys : List (List ℕ)) → take n (x ∷ xs) ≡ y ∷ ys → x ≡ y
first_kept zero x y xs ys e = absurd cc
first_kept (suc n) x y xs ys e = ap (λ (ns : List (List ℕ)). get_or ns 0 []) e

-- if the first names of two lists differ in length, the one list is no prefix of the other
differ : (x y : List ℕ) (xs ys : List (List ℕ)) → (length x ≡ length y → ⊥) → ¬ Begins (x ∷ xs) (y ∷ ys)
differ x y xs ys apart b = apart (sym (ap (λ (t : List ℕ). length t) (first_kept b.count y x ys xs b.same)))

are_apart : (x y : List ℕ) (xs ys : List (List ℕ)) → (length x ≡ length y → ⊥) → AreApart (x ∷ xs) (y ∷ ys)
are_apart x y xs ys apart = (differ x y xs ys apart, differ y x ys xs (λ e. apart (sym e)))

pub kinds_are_apart : KindsAreApart
kinds_are_apart = record {
  contents_buckets = λ h d. are_apart content_area index_area _ _ (λ e. omega arith);
  contents_temporaries = λ h n. are_apart content_area temp_area _ _ (λ e. omega arith);
  buckets_temporaries = λ d n. are_apart index_area temp_area _ _ (λ e. omega arith);
}
