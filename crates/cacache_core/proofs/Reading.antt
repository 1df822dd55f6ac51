-- How a text is cut into words, and read one word after another.
use Rattle.std.proofs.{Common.{◌≡◌, ◌<◌, ◌≤◌, ℕ, zero, suc, Bool, true, false, List, [], ◌∷◌, length, take, drop, get_or, refl, sym, ap, ◌∙◌, cond, not, add-zero, length-drop, arith, ◌++◌, Result, Ok, Err, append_assoc}, lemmas.{Bool.{ne_eqb}, List.{get_or-drop, Splits.{slice_split-cons_yes, slice_split-cons_no}}}}
use Rattle.std.specs.List.{slice_split, onto_first, filter}
use Rattle.cacache_core.specs.{Texts.{is_blank, is_some_text, words, first_and, kept_hashes, read_word, read_words, read_integrity}, declared.{errors.{Error.{Error, TheVariants.{EntryNotFound, SizeMismatch, IoError, SerdeError, IntegrityError, OutOfMemory}}, IntegrityFault.{IntegrityFault, TheVariants.{BadText}}}, integrity.digest.Hash.{Hash}}, Integrity.{strongest_first}, Errors.{IsReadFailure}}

-- a blank before a text doesn't change its words
pub words_blank : (b : ℕ) (t : List ℕ) → is_blank b ≡ true → words (b ∷ t) ≡ words t
words_blank b t e = ap (λ (l : List (List ℕ)). filter is_some_text l) (slice_split-cons_yes is_blank b t e)

-- several blanks before a text don't change its words
pub skip_blanks : (t : List ℕ) (i : ℕ) → i ≤ length t → ((k : ℕ) → k < i → is_blank (get_or t k 0) ≡ true) → words (drop i t) ≡ words t
skip_blanks t zero within blanks = refl
skip_blanks [] (suc i) within blanks = absurd (omega arith)
skip_blanks (b ∷ t) (suc i) within blanks =
    skip_blanks t i (omega arith) (λ k below. blanks (suc k) (omega arith)) ∙ sym (words_blank b t (blanks 0 (omega arith)))

-- the parts after the first one, if the rest of the text after the first part is s
abbrev parts_after : List ℕ → List (List ℕ)
parts_after [] = []
parts_after (b ∷ s) = slice_split is_blank s

words_after : (s : List ℕ) → (0 < length s → is_blank (get_or s 0 0) ≡ true) → filter is_some_text (parts_after s) ≡ words s
words_after [] blank = refl
words_after (b ∷ s) blank = sym (words_blank b s (blank (omega arith)))

-- the first part ends at the first blank
split_at_blank : (t : List ℕ) (j : ℕ) → j ≤ length t → ((k : ℕ) → k < j → is_blank (get_or t k 0) ≡ false)
    → (j < length t → is_blank (get_or t j 0) ≡ true) → slice_split is_blank t ≡ take j t ∷ parts_after (drop j t)
split_at_blank [] zero within letters blank = refl
split_at_blank (b ∷ t) zero within letters blank = slice_split-cons_yes is_blank b t (blank (omega arith))
split_at_blank [] (suc j) within letters blank = absurd (omega arith)
split_at_blank (b ∷ t) (suc j) within letters blank =
    slice_split-cons_no is_blank b t (letters 0 (omega arith))
    ∙ ap (λ (l : List (List ℕ)). onto_first b l)
    (split_at_blank t j (omega arith) (λ k below. letters (suc k) (omega arith)) (λ below. blank (omega arith)))

is_some_text-cons : (b : ℕ) (t : List ℕ) → is_some_text (b ∷ t) ≡ true
is_some_text-cons b t = ap not (ne_eqb (length (b ∷ t)) 0 (λ e. absurd (omega arith)))

kept_first : (b : ℕ) (t : List ℕ) (l : List (List ℕ)) → filter is_some_text ((b ∷ t) ∷ l) ≡ (b ∷ t) ∷ filter is_some_text l
kept_first b t l = ap (λ (x : Bool). cond x ((b ∷ t) ∷ filter is_some_text l) (filter is_some_text l)) (is_some_text-cons b t)

-- a word of j bytes, and the words after it
pub cut_word : (t : List ℕ) (j : ℕ) → 0 < j → j ≤ length t → ((k : ℕ) → k < j → is_blank (get_or t k 0) ≡ false)
    → (j < length t → is_blank (get_or t j 0) ≡ true) → words t ≡ take j t ∷ words (drop j t)
cut_word t zero some within letters blank = absurd (omega arith)
cut_word [] (suc j) some within letters blank = absurd (omega arith)
cut_word (b ∷ t) (suc j) some within letters blank =
    let end : 0 < length (drop j t) → is_blank (get_or (drop j t) 0 0) ≡ true =
    λ more. ap is_blank (get_or-drop j t 0 0 ∙ ap (λ (k : ℕ). get_or t k 0) (add-zero j))
    ∙ blank (omega (arith, length-drop j t)) in
    ap (λ (l : List (List ℕ)). filter is_some_text l) (split_at_blank (b ∷ t) (suc j) within letters blank)
    ∙ kept_first b (take j t) (parts_after (drop j t))
    ∙ ap (λ (l : List (List ℕ)). (b ∷ take j t) ∷ l) (words_after (drop j t) end)

-- if a text doesn't begin with a blank, its first blank comes later
pub some_letter : (t : List ℕ) (j : ℕ) → 0 < length t → is_blank (get_or t 0 0) ≡ false → (j < length t → is_blank (get_or t j 0) ≡ true) → 0 < j
some_letter t zero some letter blank = let clash : true ≡ false = sym (blank some) ∙ letter in cc
some_letter t (suc j) some letter blank = omega arith

-- ---- reading one word after another

-- the hashes read so far, put before the result of reading the rest
abbrev pub before : List Hash → Result (List Hash) IntegrityFault → Result (List Hash) IntegrityFault
before hs (Ok gs) = Ok (hs ++ gs)
before hs (Err e) = Err e

before-first : (hs : List Hash) (h : Hash) (r : Result (List Hash) IntegrityFault) → before hs (first_and (Ok h) r) ≡ before (hs ++ h ∷ []) r
before-first hs h (Ok gs) = ap (λ (l : List Hash). Ok l) (sym (append_assoc hs (h ∷ []) gs))
before-first hs h (Err e) = refl

-- one more word is read
pub read_more : (hs : List Hash) (h : Hash) (w : List ℕ) (ws vs : List (List ℕ)) → vs ≡ w ∷ ws → read_word w ≡ Ok h
    → before hs (read_words vs) ≡ before (hs ++ h ∷ []) (read_words ws)
read_more hs h w ws vs cut is =
    ap (λ (l : List (List ℕ)). before hs (read_words l)) cut
    ∙ ap (λ (r : Result Hash IntegrityFault). before hs (first_and r (read_words ws))) is
    ∙ before-first hs h (read_words ws)

-- if only the fourth of four tests passes, its value is chosen
pub fourth : {A : Type 0} (a b c d : Bool) (x y z u v : A) → a ≡ false → b ≡ false → c ≡ false → d ≡ true
    → cond a x (cond b y (cond c z (cond d u v))) ≡ u
fourth false false false true x y z u v p q r s = refl
fourth false false false false x y z u v p q r s = cc
fourth false false true d x y z u v p q r s = cc
fourth false true c d x y z u v p q r s = cc
fourth true b c d x y z u v p q r s = cc

-- if the words have one or more hashes, the text reads as them in order
pub read_some : (t : List ℕ) (hs : List Hash) → read_words (words t) ≡ Ok hs → 0 < length hs → read_integrity t ≡ Ok (strongest_first hs)
unfolding read_integrity
read_some t [] is some = absurd (omega arith)
read_some t (h ∷ hs) is some = ap kept_hashes is

-- a text without a hash is refused
pub read_none : (t : List ℕ) (hs : List Hash) → read_words (words t) ≡ Ok hs → length hs ≡ 0 → read_integrity t ≡ Err BadText
unfolding read_integrity
read_none t [] is none = ap kept_hashes is
read_none t (h ∷ hs) is none = absurd (omega arith)

-- if reading the words fails, reading the text fails in the same way
pub read_failed : (t : List ℕ) (e : Error) → IsReadFailure (read_words (words t)) e → IsReadFailure (read_integrity t) e
unfolding read_integrity
read_failed t (EntryNotFound cache key) fails = fails
read_failed t (SizeMismatch a b) fails = fails
read_failed t (IoError fault text) fails = fails
read_failed t (SerdeError cause text) fails = fails
read_failed t (IntegrityError fault) fails = ap kept_hashes fails
read_failed t OutOfMemory fails = fails
