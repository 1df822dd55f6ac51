-- What the text of a path shows after the path is taken apart.
use Rattle.std.proofs.{Common.{◌≡◌, ℕ, ◌<◌, ◌≤◌, ◌+◌, ◌-◌, List, [], ◌∷◌, ◌++◌, Some, Ok, Err, length, slice_index, take, drop, refl, sym, ap, ap₂, ◌∙◌, subst, arith, append-nil, length-append}, lemmas.{Bool.{le-ltb}, List.{take_all, length-drop}}}
use Rattle.std.specs.Prelude.{IfSome}
use Rattle.hex.{specs.Hex.{encode_lower, lower_digits, decode_of}, proofs.HexLemmas.{length-encode_with, decode_of-encode_lower}}
use Rattle.cacache_core.proofs.{PathTexts.{joined_texts_spell}, ProperNames.{proper_content_folder, proper_content}}
use Rattle.cacache_core.specs.{declared.{integrity.{algorithm.Algorithm.{Algorithm, TheVariants.{Sha1}}, digest.Hash.{Hash}}, errors.Error.{Error, TheVariants.{IntegrityError, OutOfMemory}}}, Integrity.{IsHash, hash_of, address}, Paths.{join, joined, slashed, cut_digits, content_area, content_names}, Texts.{name_of, long_hash}, Errors.{IsReadFailure}}
use Rattle.cacache_walks.specs.Addresses.{names_text, by_letter, digits_of}

-- ---- taken apart

letter_of : (a : Algorithm) (t : List ℕ) → by_letter (slice_index (47 ∷ name_of a ++ t) 4) ≡ Some a
letter_of Sha1 t = refl
letter_of a t = refl

behind_name : (a : Algorithm) (t : List ℕ) → drop (length (name_of a) + 1) (47 ∷ name_of a ++ t) ≡ t
behind_name Sha1 t = refl
behind_name a t = refl

name_length : (a : Algorithm) (t : List ℕ) → length (47 ∷ name_of a ++ t) ≡ length (name_of a) + 1 + length t
name_length a t = let l = length-append (47 ∷ name_of a) t in omega (arith, l)

digits_of-cut : (d : List ℕ) → 4 < length d → digits_of (slashed (cut_digits d)) ≡ d
digits_of-cut (a ∷ b ∷ c ∷ e ∷ d) long = ap (λ (t : List ℕ). a ∷ b ∷ c ∷ e ∷ t) (append-nil d)
digits_of-cut d long = absurd (omega arith)

cut_length : (d : List ℕ) → 4 < length d → 7 ≤ length (slashed (cut_digits d))
cut_length (a ∷ b ∷ c ∷ e ∷ d) long = let l = length-append d [] in omega (arith, l)
cut_length d long = absurd (omega arith)

-- what is known of a text that is made of a content's names
pub record Taken (text : List ℕ) (h : Hash) : Type 0 where
  pub letter : by_letter (slice_index text 4) ≡ Some h.algorithm
  pub long : length (name_of h.algorithm) + 1 + 7 ≤ length text
  pub digits : digits_of (drop (length (name_of h.algorithm) + 1) text) ≡ encode_lower h.digest
  pub bytes : decode_of (encode_lower h.digest) ≡ Ok h.digest

pub taken : (text : List ℕ) (h : Hash) → IsHash h → text ≡ names_text h → Taken text h
unfolding names_text
taken text h hash is =
    let cut = slashed (cut_digits (encode_lower h.digest)) in
    let four : 4 < length (encode_lower h.digest) = (let l = length-encode_with lower_digits h.digest in let three = hash.long_enough in omega (arith, l, three)) in
    record {
      letter = ap (λ (t : List ℕ). by_letter (slice_index t 4)) is ∙ letter_of h.algorithm cut;
      long = (let l = ap length is ∙ name_length h.algorithm cut in let c = cut_length (encode_lower h.digest) four in omega (arith, l, c));
      digits = ap (λ (t : List ℕ). digits_of (drop (length (name_of h.algorithm) + 1) t)) is ∙ ap digits_of (behind_name h.algorithm cut) ∙ digits_of-cut (encode_lower h.digest) four;
      bytes = decode_of-encode_lower h.digest hash.bytes;
    }

-- ---- the path of a content

-- its names come after its folder
content_text : (cache : List ℕ) (h : Hash) → IsHash h → joined cache (content_names h) ≡ join cache content_area ++ names_text h
unfolding names_text
content_text cache h hash = joined_texts_spell cache content_area (name_of h.algorithm ∷ cut_digits (encode_lower h.digest)) proper_content_folder (proper_content h hash)

-- ---- for the functions

pub same_digest : (text : List ℕ) (h : Hash) (a : Algorithm) (k : ℕ) (digits bytes : List ℕ) → Taken text h → a ≡ h.algorithm → k ≡ length (name_of a) + 1 → digits ≡ digits_of (drop k text) → decode_of digits ≡ Ok bytes → bytes ≡ h.digest
same_digest text h a k digits bytes t same skip is e =
    let all : digits ≡ encode_lower h.digest = is ∙ ap (λ (n : ℕ). digits_of (drop n text)) (skip ∙ ap (λ (x : Algorithm). length (name_of x) + 1) same) ∙ t.digits in
    let both : Ok bytes ≡ Ok h.digest = sym e ∙ ap decode_of all ∙ t.bytes in
    cc

pub decodes : (text : List ℕ) (h : Hash) (a : Algorithm) (k : ℕ) (digits : List ℕ) → Taken text h → a ≡ h.algorithm → k ≡ length (name_of a) + 1 → digits ≡ digits_of (drop k text) → decode_of digits ≡ Ok h.digest
decodes text h a k digits t same skip is =
    ap decode_of (is ∙ ap (λ (n : ℕ). digits_of (drop n text)) (skip ∙ ap (λ (x : Algorithm). length (name_of x) + 1) same) ∙ t.digits) ∙ t.bytes

drop_front : (xs ys : List ℕ) → drop (length xs) (xs ++ ys) ≡ ys
drop_front [] ys = refl
drop_front (x ∷ xs) ys = drop_front xs ys

pub behind_top : (cache top path : List ℕ) (h : Hash) → top ≡ join cache content_area → IsHash h → path ≡ joined cache (content_names h) → drop (length top) path ≡ names_text h
behind_top cache top path h is hash e =
    ap (drop (length top)) (e ∙ content_text cache h hash ∙ ap (λ (p : List ℕ). p ++ names_text h) (sym is)) ∙ drop_front top (names_text h)

pub not_shorter : (cache top path : List ℕ) (h : Hash) → top ≡ join cache content_area → IsHash h → path ≡ joined cache (content_names h) → length path < length top → ⊥
not_shorter cache top path h is hash e short =
    let l = ap length (e ∙ content_text cache h hash ∙ ap (λ (p : List ℕ). p ++ names_text h) (sym is)) ∙ length-append top (names_text h) in
    omega (arith, l, short)

-- the path that was built from the parts is the one that was read
pub same_path_of : (cache lies path : List ℕ) (i : List Hash) (a : Algorithm) (d : List ℕ) (h : Hash) → i ≡ hash_of a d ∷ [] → IfSome (address i) (λ g. lies ≡ joined cache (content_names g)) → a ≡ h.algorithm → d ≡ h.digest → path ≡ joined cache (content_names h) → lies ≡ path
same_path_of cache lies path i a d h is at x y e =
    let lie : lies ≡ joined cache (content_names (hash_of a d)) = subst (λ (j : List Hash). IfSome (address j) (λ g. lies ≡ joined cache (content_names g))) is at in
    lie ∙ ap₂ (λ (b : Algorithm) (c : List ℕ). joined cache (content_names (hash_of b c))) x y ∙ sym e

pub rest_all : (k : ℕ) (xs : List ℕ) → take (length xs - k) (drop k xs) ≡ drop k xs
rest_all k xs = let l = length-drop k xs in take_all (length xs - k) (drop k xs) (omega (arith, l))

pub lie_of : (cache lies : List ℕ) (i : List Hash) (a : Algorithm) (d : List ℕ) → i ≡ hash_of a d ∷ [] → IfSome (address i) (λ g. lies ≡ joined cache (content_names g)) → lies ≡ joined cache (content_names (hash_of a d))
lie_of cache lies i a d is at = subst (λ (j : List Hash). IfSome (address j) (λ g. lies ≡ joined cache (content_names g))) is at

long_is : (a : Algorithm) (d : List ℕ) → 3 ≤ length d → long_hash a d ≡ Ok (hash_of a d)
long_is a d long = rw (le-ltb (length d) 3 long) refl

-- a digest that is long enough is refused only for lack of memory
pub memory_alone : (a : Algorithm) (d : List ℕ) (e : Error) → 3 ≤ length d → IsReadFailure (long_hash a d) e → e ≡ OutOfMemory
memory_alone a d OutOfMemory long fails = refl
memory_alone a d (IntegrityError fault) long fails = absurd (let both : Ok (hash_of a d) ≡ Err fault = sym (long_is a d long) ∙ fails in cc)
memory_alone a d e long fails = absurd fails
