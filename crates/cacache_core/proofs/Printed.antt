-- What an integrity prints, hash by hash, reads as that integrity.
use Rattle.std.proofs.{Common.{◌≡◌, ◌<◌, ◌≤◌, ◌+◌, ◌-◌, List, [], ◌∷◌, ◌++◌, ℕ, length, take, drop, get_or, ap, sym, ◌∙◌, append-nil, arith, ◌*◌, ◌/◌, ◌%◌, ◌||◌, zero, suc, Bool, true, false, replicate, slice_index, map, Ok, Err, refl, ap₂, cond, not, length-append, codes}, lemmas.{List.{take_more, take_all, Concat.{flat_map-append}, Splits.{slice_split_none, slice_split_at}, Elements.{All-nil, All-cons, All-head, All-tail, All-append}}, Bool.{le-ltb, ne_eqb}}}
use Rattle.std.specs.{List.{flat_map, filter, list_any}, Prelude.{All}}
use Rattle.cacache_core.specs.{declared.{integrity.{digest.Hash.{Hash}, algorithm.Algorithm.{Algorithm, TheVariants.{Sha1, Sha256, Sha384, Sha512}}}, errors.IntegrityFault.TheVariants.{ShortDigest}}, Texts.{hash_text, integrity_text, name_of, is_blank, is_some_text, words, decoded_hash, read_word, first_and, read_words, kept_hashes, read_integrity}, Integrity.{IsHash, IsIntegrity}}
use Rattle.base64.specs.{Rfc4648.{encode_symbols, encode_group, padding_len}, Engines.{standard}, GeneralPurpose.{encode_of, decode_of, IsBytes}}
use Rattle.base64.proofs.EngineFacts.{decode_of-encode_of}

-- the text of a hash that follows another: a space, then its own text
abbrev pub spaced : Hash → List ℕ
spaced h = 32 ∷ hash_text h

-- an integrity's text is that of the first hash, then each other after a space
pub text_of-cons : (h : Hash) (hs : List Hash) → integrity_text (h ∷ hs) ≡ hash_text h ++ flat_map spaced hs
text_of-cons h [] = rw append-nil
text_of-cons h (g ∷ hs) = ap (λ t. hash_text h ++ 32 ∷ t) (text_of-cons g hs)

-- one more hash is printed
pub spaced_more : (hs : List Hash) (i : ℕ) (h : Hash) → i < length hs → h ≡ get_or hs i h
    → flat_map spaced (take i hs) ++ spaced h ≡ flat_map spaced (take (i + 1) hs)
spaced_more hs i h below is =
    ap (λ (t : List ℕ). flat_map spaced (take i hs) ++ t)
    (sym (append-nil (spaced h)) ∙ ap (λ (x : Hash). flat_map spaced (x ∷ [])) is)
    ∙ sym (flat_map-append spaced (take i hs) (get_or hs i h ∷ []))
    ∙ sym (ap (λ (l : List Hash). flat_map spaced l) (take_more hs i h below))

-- all hashes are printed
pub spaced_all : (hs : List Hash) (i : ℕ) (h : Hash) → 0 < length hs → length hs - 1 ≤ i → h ≡ get_or hs 0 h
    → hash_text h ++ flat_map spaced (take i (take (length hs - 1) (drop 1 hs))) ≡ integrity_text hs
spaced_all [] i h some past is = absurd (omega arith)
spaced_all (g ∷ hs) i h some past is =
    let whole : take i (take (length (g ∷ hs) - 1) hs) ≡ hs =
    ap (λ (l : List Hash). take i l) (take_all (length (g ∷ hs) - 1) hs (omega arith)) ∙ take_all i hs (omega arith) in
    ap (λ (l : List Hash). hash_text h ++ flat_map spaced l) whole ∙ ap (λ (x : Hash). hash_text x ++ flat_map spaced hs) is ∙ sym (text_of-cons g hs)

-- ---- the printed text of an integrity reads as that integrity

-- a byte that isn't a blank
abbrev IsLetter : ℕ → Type 0
IsLetter b = is_blank b ≡ false

-- ---- base64 has no blank

letters_two : (t : List ℕ) (i j : ℕ) → ((k : ℕ) → IsLetter (slice_index t k)) → All IsLetter (slice_index t i ∷ slice_index t j ∷ [])
letters_two t i j h =
    All-cons IsLetter (slice_index t i) (slice_index t j ∷ []) (h i) (All-cons IsLetter (slice_index t j) [] (h j) (All-nil IsLetter))

letters_three : (t : List ℕ) (i j k : ℕ) → ((k : ℕ) → IsLetter (slice_index t k)) → All IsLetter (slice_index t i ∷ slice_index t j ∷ slice_index t k ∷ [])
letters_three t i j k h = All-cons IsLetter (slice_index t i) (slice_index t j ∷ slice_index t k ∷ []) (h i) (letters_two t j k h)

letters_four : (t : List ℕ) (i j k l : ℕ) → ((k : ℕ) → IsLetter (slice_index t k)) → All IsLetter (slice_index t i ∷ slice_index t j ∷ slice_index t k ∷ slice_index t l ∷ [])
letters_four t i j k l h = All-cons IsLetter (slice_index t i) (slice_index t j ∷ slice_index t k ∷ slice_index t l ∷ []) (h i) (letters_three t j k l h)

letters-encode_symbols : (t m : List ℕ) → ((k : ℕ) → IsLetter (slice_index t k)) → All IsLetter (encode_symbols t m)
unfolding encode_symbols
letters-encode_symbols t [] h = All-nil IsLetter
letters-encode_symbols t (a ∷ []) h = letters_two t (a / 4) (a % 4 * 16) h
letters-encode_symbols t (a ∷ b ∷ []) h = letters_three t (a / 4) (a % 4 * 16 + b / 16) (b % 16 * 4) h
letters-encode_symbols t (a ∷ b ∷ c ∷ rest) h =
    All-append IsLetter (encode_group t a b c) (encode_symbols t rest)
    (letters_four t (a / 4) (a % 4 * 16 + b / 16) (b % 16 * 4 + c / 64) (c % 64) h)
    (letters-encode_symbols t rest h)

letters-replicate : (n b : ℕ) → IsLetter b → All IsLetter (replicate n b)
letters-replicate zero b h = All-nil IsLetter
letters-replicate (suc n) b h = All-cons IsLetter b (replicate n b) h (letters-replicate n b h)

-- if no byte of a text is a blank, reading it at any index finds no blank, even past its end
letters_at : (t : List ℕ) (k : ℕ) → All IsLetter t → IsLetter (slice_index t k)
letters_at [] k all = refl
letters_at (b ∷ t) zero all = All-head IsLetter b t all
letters_at (b ∷ t) (suc k) all = letters_at t k (All-tail IsLetter b t all)

or_first : (a b : Bool) → (a || b) ≡ false → a ≡ false
or_first false b e = refl
or_first true b e = e

or_second : (a b : Bool) → (a || b) ≡ false → b ≡ false
or_second false b e = e
or_second true b e = cc

letters_from_test : (t : List ℕ) → list_any is_blank t ≡ false → All IsLetter t
letters_from_test [] none = All-nil IsLetter
letters_from_test (b ∷ t) none = All-cons IsLetter b t (or_first _ _ none) (letters_from_test t (or_second _ _ none))

letters-encode_of : (m : List ℕ) → All IsLetter (encode_of standard m)
letters-encode_of m =
    let table = letters_from_test standard.encode_table refl in
    All-append IsLetter (encode_symbols standard.encode_table m) (replicate (padding_len (length m)) 61)
    (letters-encode_symbols standard.encode_table m (λ k. letters_at standard.encode_table k table))
    (letters-replicate (padding_len (length m)) 61 refl)

letters-name_of : (a : Algorithm) → All IsLetter (name_of a)
letters-name_of Sha1 = letters_from_test (codes "sha1") refl
letters-name_of Sha256 = letters_from_test (codes "sha256") refl
letters-name_of Sha384 = letters_from_test (codes "sha384") refl
letters-name_of Sha512 = letters_from_test (codes "sha512") refl

letters-hash_text : (h : Hash) → All IsLetter (hash_text h)
letters-hash_text h =
    All-append IsLetter (name_of h.algorithm) (45 ∷ encode_of standard h.digest) (letters-name_of h.algorithm)
    (All-cons IsLetter 45 (encode_of standard h.digest) refl (letters-encode_of h.digest))

-- ---- the words of a printed integrity are the texts of its hashes

some-hash_text : (h : Hash) → is_some_text (hash_text h) ≡ true
some-hash_text h =
    ap not (ne_eqb (length (hash_text h)) 0 (λ e. omega (arith, length-append (name_of h.algorithm) (45 ∷ encode_of standard h.digest))))

words_one : (h : Hash) → words (hash_text h) ≡ hash_text h ∷ []
words_one h =
    ap (λ (l : List (List ℕ)). filter is_some_text l) (slice_split_none is_blank (hash_text h) (letters-hash_text h))
    ∙ ap (λ (b : Bool). cond b (hash_text h ∷ []) []) (some-hash_text h)

words_more : (h : Hash) (t : List ℕ) → words (hash_text h ++ 32 ∷ t) ≡ hash_text h ∷ words t
words_more h t =
    ap (λ (l : List (List ℕ)). filter is_some_text l) (slice_split_at is_blank (hash_text h) 32 t (letters-hash_text h) refl)
    ∙ ap (λ (b : Bool). cond b (hash_text h ∷ words t) (words t)) (some-hash_text h)

pub words-text_of : (hs : List Hash) → words (integrity_text hs) ≡ map hash_text hs
words-text_of [] = refl
words-text_of (h ∷ []) = words_one h
words-text_of (h ∷ g ∷ hs) = words_more h (integrity_text (g ∷ hs)) ∙ ap (λ (l : List (List ℕ)). hash_text h ∷ l) (words-text_of (g ∷ hs))

-- ---- each of these words reads as its hash

read_behind : (a : Algorithm) (d : List ℕ) → IsBytes d → 3 ≤ length d → decoded_hash a (decode_of standard (encode_of standard d)) ≡ Ok (record { algorithm = a; «digest» = d })
read_behind a d bytes long =
    ap (decoded_hash a) (decode_of-encode_of standard d refl bytes)
    ∙ ap (λ (b : Bool). cond b (Err ShortDigest) (Ok (record { algorithm = a; «digest» = d }))) (le-ltb (length d) 3 long)

read_named : (a : Algorithm) (d : List ℕ) → read_word (name_of a ++ 45 ∷ encode_of standard d) ≡ decoded_hash a (decode_of standard (encode_of standard d))
read_named Sha1 d = refl
read_named Sha256 d = refl
read_named Sha384 d = refl
read_named Sha512 d = refl

pub read_word-hash_text : (h : Hash) → IsHash h → read_word (hash_text h) ≡ Ok h
read_word-hash_text h is = read_named h.algorithm h.digest ∙ read_behind h.algorithm h.digest is.bytes is.long_enough

read_words-hash_text : (hs : List Hash) → All IsHash hs → read_words (map hash_text hs) ≡ Ok hs
read_words-hash_text [] all = refl
read_words-hash_text (h ∷ hs) all =
    ap₂ first_and (read_word-hash_text h (All-head IsHash h hs all)) (read_words-hash_text hs (All-tail IsHash h hs all))

pub printed : (i : List Hash) → IsIntegrity i → read_integrity (integrity_text i) ≡ Ok i
unfolding read_integrity
printed [] is = absurd (omega (arith, is.nonempty))
printed (h ∷ hs) is =
    ap (λ (ws : List (List ℕ)). kept_hashes (read_words ws)) (words-text_of (h ∷ hs))
    ∙ ap kept_hashes (read_words-hash_text (h ∷ hs) is.hashes)
    ∙ ap (λ (l : List Hash). Ok l) is.ordered
