-- Hashes in order, the strongest algorithm first, and each of them kept once.
use Rattle.std.proofs.{Common.{inl, inr, ◌≡◌, ◌≢◌, ◌<◌, ◌+◌, ℕ, Bool, true, false, List, [], ◌∷◌, ◌++◌, length, refl, sym, ap, ap₂, ◌∙◌, append-nil, length-append, arith, ◌≤◌, take, get_or}, lemmas.{Bool.{eqb-true, ne_eqb, cases_Bool}, List.{Elements.{All-append, All-filter, filter-append, All-nil, All-head, All-tail, All-push}, Sums.{fold-append, fold_more}}}}
use Rattle.std.specs.{Prelude.{All}, List.{filter, fold}}
use Rattle.cacache_core.specs.{declared.integrity.{algorithm.Algorithm.{Algorithm, TheVariants.{Sha1, Sha256, Sha384, Sha512}}, digest.Hash.{Hash}}, Integrity.{rank, is_of, hash_of, strongest_first, IsHash, IsIntegrity}, Matching.{with_hash, each_once, joined_hashes, lists}}

-- filtering again by the same test removes nothing
filter_again : (p : Hash → Bool) (hs : List Hash) → filter p (filter p hs) ≡ filter p hs
filter_again p [] = refl
filter_again p (h ∷ hs) = elim (cases_Bool (p h)) [
  | inl passes ↦ rw (passes, passes) (ap (λ (l : List Hash). h ∷ l) (filter_again p hs))
  | inr fails ↦ rw fails (filter_again p hs)
]

-- filtering by one test and then by another keeps nothing if no hash passes both
filter_none : (p q : Hash → Bool) → ((h : Hash) → q h ≡ true → p h ≡ false) → (hs : List Hash) → filter p (filter q hs) ≡ []
filter_none p q apart [] = refl
filter_none p q apart (h ∷ hs) = elim (cases_Bool (q h)) [
  | inl passes ↦ rw (passes, apart h passes) (filter_none p q apart hs)
  | inr fails ↦ rw fails (filter_none p q apart hs)
]

other : (a b : Algorithm) → rank b ≢ rank a → (h : Hash) → is_of b h ≡ true → is_of a h ≡ false
other a b ne h e = ne_eqb (rank h.algorithm) (rank a) (λ same. ne (sym (eqb-true _ _ e) ∙ same))

spread : (p : Hash → Bool) (w x y z : List Hash) → filter p (w ++ x ++ y ++ z) ≡ filter p w ++ filter p x ++ filter p y ++ filter p z
spread p w x y z =
    filter-append p (w ++ x ++ y) z
    ∙ ap (λ (l : List Hash). l ++ filter p z) (filter-append p (w ++ x) y ∙ ap (λ (l : List Hash). l ++ filter p y) (filter-append p w x))

four : (w x y z w' x' y' z' : List Hash) → w ≡ w' → x ≡ x' → y ≡ y' → z ≡ z' → w ++ x ++ y ++ z ≡ w' ++ x' ++ y' ++ z'
four w x y z w' x' y' z' p q r s =
    ap₂ (λ (a b : List Hash). a ++ b) (ap₂ (λ (a b : List Hash). a ++ b) (ap₂ (λ (a b : List Hash). a ++ b) p q) r) s

-- ordering keeps the hashes of each algorithm as they are
kept : (a : Algorithm) (hs : List Hash) → filter (is_of a) (strongest_first hs) ≡ filter (is_of a) hs
kept Sha512 hs =
    let p = is_of Sha512 in
    let f = filter p hs in
    spread p f (filter (is_of Sha384) hs) (filter (is_of Sha256) hs) (filter (is_of Sha1) hs)
    ∙ four _ _ _ _ f [] [] [] (filter_again p hs) (filter_none p (is_of Sha384) (other Sha512 Sha384 (λ e. omega arith)) hs)
    (filter_none p (is_of Sha256) (other Sha512 Sha256 (λ e. omega arith)) hs) (filter_none p (is_of Sha1) (other Sha512 Sha1 (λ e. omega arith)) hs)
    ∙ (append-nil ((f ++ []) ++ []) ∙ append-nil (f ++ []) ∙ append-nil f)
kept Sha384 hs =
    let p = is_of Sha384 in
    let f = filter p hs in
    spread p (filter (is_of Sha512) hs) f (filter (is_of Sha256) hs) (filter (is_of Sha1) hs)
    ∙ four _ _ _ _ [] f [] [] (filter_none p (is_of Sha512) (other Sha384 Sha512 (λ e. omega arith)) hs) (filter_again p hs)
    (filter_none p (is_of Sha256) (other Sha384 Sha256 (λ e. omega arith)) hs) (filter_none p (is_of Sha1) (other Sha384 Sha1 (λ e. omega arith)) hs)
    ∙ (append-nil (f ++ []) ∙ append-nil f)
kept Sha256 hs =
    let p = is_of Sha256 in
    let f = filter p hs in
    spread p (filter (is_of Sha512) hs) (filter (is_of Sha384) hs) f (filter (is_of Sha1) hs)
    ∙ four _ _ _ _ [] [] f [] (filter_none p (is_of Sha512) (other Sha256 Sha512 (λ e. omega arith)) hs)
    (filter_none p (is_of Sha384) (other Sha256 Sha384 (λ e. omega arith)) hs) (filter_again p hs)
    (filter_none p (is_of Sha1) (other Sha256 Sha1 (λ e. omega arith)) hs)
    ∙ append-nil f
kept Sha1 hs =
    let p = is_of Sha1 in
    spread p (filter (is_of Sha512) hs) (filter (is_of Sha384) hs) (filter (is_of Sha256) hs) (filter p hs)
    ∙ four _ _ _ _ [] [] [] (filter p hs) (filter_none p (is_of Sha512) (other Sha1 Sha512 (λ e. omega arith)) hs)
    (filter_none p (is_of Sha384) (other Sha1 Sha384 (λ e. omega arith)) hs) (filter_none p (is_of Sha256) (other Sha1 Sha256 (λ e. omega arith)) hs)
    (filter_again p hs)

-- ordering hashes that are in order changes nothing
pub in_order : (hs : List Hash) → strongest_first (strongest_first hs) ≡ strongest_first hs
in_order hs = four _ _ _ _ _ _ _ _ (kept Sha512 hs) (kept Sha384 hs) (kept Sha256 hs) (kept Sha1 hs)

one : (a : Algorithm) (d : List ℕ) → hash_of a d ∷ [] ≡ strongest_first (hash_of a d ∷ [])
one Sha512 d = refl
one Sha384 d = refl
one Sha256 d = refl
one Sha1 d = refl

-- one hash is in order
pub one_in_order : (hs : List Hash) → length hs < 2 → hs ≡ strongest_first hs
one_in_order [] few = refl
one_in_order (h ∷ []) few = one h.algorithm h.digest
one_in_order (h ∷ g ∷ hs) few = absurd (omega arith)

lengths : (w x y z : List Hash) → length (w ++ x ++ y ++ z) ≡ length w + length x + length y + length z
lengths w x y z = omega (arith, length-append (w ++ x ++ y) z, length-append (w ++ x) y, length-append w x)

-- ordering loses no hash
longer : (a : Algorithm) (d : List ℕ) (hs : List Hash) → length (strongest_first (hash_of a d ∷ hs)) ≡ length (strongest_first hs) + 1
longer Sha512 d hs =
    omega (
      arith,
      lengths (hash_of Sha512 d ∷ filter (is_of Sha512) hs) (filter (is_of Sha384) hs) (filter (is_of Sha256) hs) (filter (is_of Sha1) hs),
      lengths (filter (is_of Sha512) hs) (filter (is_of Sha384) hs) (filter (is_of Sha256) hs) (filter (is_of Sha1) hs),
    )
longer Sha384 d hs =
    omega (
      arith,
      lengths (filter (is_of Sha512) hs) (hash_of Sha384 d ∷ filter (is_of Sha384) hs) (filter (is_of Sha256) hs) (filter (is_of Sha1) hs),
      lengths (filter (is_of Sha512) hs) (filter (is_of Sha384) hs) (filter (is_of Sha256) hs) (filter (is_of Sha1) hs),
    )
longer Sha256 d hs =
    omega (
      arith,
      lengths (filter (is_of Sha512) hs) (filter (is_of Sha384) hs) (hash_of Sha256 d ∷ filter (is_of Sha256) hs) (filter (is_of Sha1) hs),
      lengths (filter (is_of Sha512) hs) (filter (is_of Sha384) hs) (filter (is_of Sha256) hs) (filter (is_of Sha1) hs),
    )
longer Sha1 d hs =
    omega (
      arith,
      lengths (filter (is_of Sha512) hs) (filter (is_of Sha384) hs) (filter (is_of Sha256) hs) (hash_of Sha1 d ∷ filter (is_of Sha1) hs),
      lengths (filter (is_of Sha512) hs) (filter (is_of Sha384) hs) (filter (is_of Sha256) hs) (filter (is_of Sha1) hs),
    )

-- one or more hashes, put in order, are an integrity
pub ordered_is_integrity : (hs : List Hash) → 0 < length hs → All IsHash hs → IsIntegrity (strongest_first hs)
ordered_is_integrity [] some all = absurd (omega arith)
ordered_is_integrity (h ∷ hs) some all = record {
  nonempty = omega (arith, longer h.algorithm h.digest hs);
  ordered = in_order (h ∷ hs);
  hashes
      = let of : (a : Algorithm) → All IsHash (filter (is_of a) (h ∷ hs)) = λ a. All-filter (is_of a) IsHash (h ∷ hs) all in
      let f : (a : Algorithm) → List Hash = λ a. filter (is_of a) (h ∷ hs) in
      All-append IsHash (f Sha512 ++ f Sha384 ++ f Sha256) (f Sha1)
      (All-append IsHash (f Sha512 ++ f Sha384) (f Sha256) (All-append IsHash (f Sha512) (f Sha384) (of Sha512) (of Sha384)) (of Sha256)) (of Sha1);
}

-- ---- keeping each hash once: no hash is lost, and each that is kept is a hash

all_with : (hs : List Hash) (h : Hash) → All IsHash hs → IsHash h → All IsHash (with_hash hs h)
all_with hs h all is = elim (cases_Bool (lists hs h)) [
  | inl there ↦ rw there all
  | inr new ↦ rw new (All-push IsHash hs h all is)
]

longer_with : (hs : List Hash) (h : Hash) → length hs ≤ length (with_hash hs h)
longer_with hs h = elim (cases_Bool (lists hs h)) [
  | inl there ↦ rw there (omega arith)
  | inr new ↦ rw new (omega (arith, length-append hs (h ∷ [])))
]

all_once : (kept hs : List Hash) → All IsHash kept → All IsHash hs → All IsHash (fold with_hash kept hs)
all_once kept [] all more = all
all_once kept (h ∷ hs) all more =
    all_once (with_hash kept h) hs (all_with kept h all (All-head IsHash h hs more)) (All-tail IsHash h hs more)

longer_once : (kept hs : List Hash) → length kept ≤ length (fold with_hash kept hs)
longer_once kept [] = omega arith
longer_once kept (h ∷ hs) = omega (arith, longer_with kept h, longer_once (with_hash kept h) hs)

some_once : (hs : List Hash) → 0 < length hs → 0 < length (each_once hs)
some_once [] some = some
some_once (h ∷ hs) some = omega (arith, longer_once (h ∷ []) hs)

-- the joined hashes of two integrities are an integrity
pub joined_is_integrity : (i j : List Hash) → IsIntegrity i → IsIntegrity j → IsIntegrity (joined_hashes i j)
joined_is_integrity i j one other =
    ordered_is_integrity (each_once (i ++ j))
    (some_once (i ++ j) (omega (arith, length-append i j, one.nonempty)))
    (all_once [] (i ++ j) (All-nil IsHash) (All-append IsHash i j one.hashes other.hashes))

-- adding the hashes of one list and then those of another is adding those of both lists in a row
pub joined_once : (i j : List Hash) → fold with_hash (fold with_hash [] i) j ≡ each_once (i ++ j)
joined_once i j = sym (fold-append with_hash [] i j)

-- one more hash is kept
pub once_more : (old hs kept : List Hash) (i : ℕ) (h : Hash) → i < length hs → h ≡ get_or hs i h → kept ≡ fold with_hash old (take i hs)
    → with_hash kept h ≡ fold with_hash old (take (i + 1) hs)
once_more old hs kept i h below is so =
    ap (λ (k : List Hash). with_hash k h) so
    ∙ ap (λ (x : Hash). with_hash (fold with_hash old (take i hs)) x) is
    ∙ sym (fold_more with_hash old hs i h below)

-- a hash that is kept already adds nothing, and a new one is added
pub with_there : (hs more : List Hash) (h : Hash) → lists hs h ≡ true → with_hash hs h ≡ more → hs ≡ more
with_there hs more h there rest =
    let same : with_hash hs h ≡ hs = rw there refl in
    sym same ∙ rest

pub with_new : (hs pushed more : List Hash) (h g : Hash) → lists hs h ≡ false → pushed ≡ hs ++ g ∷ [] → g ≡ h → with_hash hs h ≡ more → pushed ≡ more
with_new hs pushed more h g new push copy rest =
    let same : with_hash hs h ≡ hs ++ h ∷ [] = rw new refl in
    push ∙ ap (λ (x : Hash). hs ++ x ∷ []) copy ∙ sym same ∙ rest
