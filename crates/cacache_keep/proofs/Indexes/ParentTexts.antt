-- The text of the folder that holds a bucket's path.
use Rattle.std.proofs.{Common.{◌≡◌, ◌+◌, ◌-◌, ◌≤◌, ◌<◌, ◌==◌, ℕ, zero, suc, List, [], ◌∷◌, ◌++◌, Bool, true, false, cond, Some, length, take, drop, slice_index, refl, sym, ap, ◌∙◌, arith, append_assoc, length-append, eqb-true, bytes_eq}, Math.Seq.{take-append_seam, get_or-append-add, get_or-append_seam}, lemmas.{Bool.{and_parts, eq-eqb, and_right}, Slice.Eq.{bytes_eq-Decides}, List.{take_all}}}
use Rattle.std.specs.{List.{list_all, list_any}, Path.{is_trailing, path_parent, rfind_below, root_dir, rsplit_once, split_last_component, trim_trailing, trimmed_len}, Prelude.{unwrap_or}}
use Rattle.cacache_core.specs.Paths.{IsProperName, ends_name, join}
use Rattle.cacache_keep.specs.{Buckets.{is_hex_digit}, Rewriting.{folder_of}}

-- ---- hex digits

-- a byte that is none is another one
not_digit : (c d : ℕ) → is_hex_digit c ≡ false → is_hex_digit d ≡ true → (d == c) ≡ false
not_digit c d none digit = by (d == c) refl
  where
    by : (b : Bool) → (d == c) ≡ b → b ≡ false
    by true e = absurd (let wrong : false ≡ true = sym none ∙ ap is_hex_digit (sym (eqb-true d c e)) ∙ digit in cc)
    by false e = refl

digit_at : (x : List ℕ) (k : ℕ) → list_all is_hex_digit x ≡ true → k < length x → is_hex_digit (slice_index x k) ≡ true
digit_at [] k all below = absurd (omega (arith, below))
digit_at (c ∷ x) zero all below = (and_parts _ _ all).0
digit_at (c ∷ x) (suc k) all below = digit_at x k (and_parts _ _ all).1 (omega (arith, below))

-- a text whose last byte is one
pub record EndsHex (x : List ℕ) : Type 0 where
  pub front : List ℕ
  pub last : ℕ
  pub is : x ≡ front ++ last ∷ []
  pub hex : is_hex_digit last ≡ true

pub digits_end : (c : ℕ) (x : List ℕ) → list_all is_hex_digit (c ∷ x) ≡ true → EndsHex (c ∷ x)
digits_end c [] all = record { front = []; last = c; is = refl; hex = (and_parts _ _ all).0 }
digits_end c (d ∷ x) all =
    let rest = digits_end d x (and_parts _ _ all).1 in
    record { front = c ∷ rest.front; last = rest.last; is = ap (λ (l : List ℕ). c ∷ l) rest.is; hex = rest.hex }

behind : (f x : List ℕ) → EndsHex x → EndsHex (f ++ x)
behind f x e = record { front = f ++ e.front; last = e.last; is = ap (λ (l : List ℕ). f ++ l) e.is ∙ sym (append_assoc f e.front (e.last ∷ [])); hex = e.hex }

size_of : (x : List ℕ) (e : EndsHex x) → length x ≡ suc (length e.front)
size_of x e = ap length e.is ∙ (let sum = length-append e.front (e.last ∷ []) in omega (arith, sum))

last_of : (x : List ℕ) (e : EndsHex x) → slice_index x (length e.front) ≡ e.last
last_of x e = ap (λ (l : List ℕ). slice_index l (length e.front)) e.is ∙ get_or-append_seam e.front (e.last) [] 0

not_trailing : (x : List ℕ) (i : ℕ) → (slice_index x i == 47) ≡ false → (slice_index x i == 46) ≡ false → is_trailing x i ≡ false
not_trailing x i slash dot = rw (slash, dot) (and_right _ false refl)

not_last : (x : List ℕ) (e : EndsHex x) (c : ℕ) → is_hex_digit c ≡ false → (slice_index x (length e.front) == c) ≡ false
not_last x e c none = ap (λ (d : ℕ). d == c) (last_of x e) ∙ not_digit c e.last none e.hex

trimmed : (x : List ℕ) → EndsHex x → trim_trailing x ≡ x
unfolding trim_trailing
trimmed x e =
    let kept : trimmed_len x (length x) ≡ length x
    = ap (trimmed_len x) (size_of x e) ∙ ap (λ b. cond b (trimmed_len x (length e.front)) (suc (length e.front))) (not_trailing x (length e.front) (not_last x e 47 refl) (not_last x e 46 refl)) ∙ sym (size_of x e) in
    ap (λ (n : ℕ). take n x) kept ∙ take_all (length x) x (omega arith)

-- ---- a name after a slash

past_slash : (f c : List ℕ) (k : ℕ) → slice_index (f ++ 47 ∷ c) (length f + suc k) ≡ slice_index c k
past_slash f c k = get_or-append-add f (47 ∷ c) (suc k) 0

-- the last slash is the one before the name
last_slash : (f c : List ℕ) (k n : ℕ) → list_all is_hex_digit c ≡ true → n ≡ suc (length f + k) → k ≤ length c → rfind_below 47 (f ++ 47 ∷ c) n ≡ Some (length f)
last_slash f c k zero all is below = absurd (omega (arith, is))
last_slash f c zero (suc n) all is below =
    let here : n ≡ length f = omega (arith, is) in
    let slash : slice_index (f ++ 47 ∷ c) n ≡ 47 = ap (slice_index (f ++ 47 ∷ c)) here ∙ get_or-append_seam f 47 c 0 in
    ap (λ b. cond b (Some n) (rfind_below 47 (f ++ 47 ∷ c) n)) (eq-eqb (slice_index (f ++ 47 ∷ c) n) 47 slash) ∙ ap Some here
last_slash f c (suc k) (suc n) all is below =
    let here : n ≡ length f + suc k = omega (arith, is) in
    let digit = digit_at c k all (omega (arith, below)) in
    let none : (slice_index (f ++ 47 ∷ c) n == 47) ≡ false
    = ap (λ (m : ℕ). slice_index (f ++ 47 ∷ c) m == 47) here ∙ ap (λ (d : ℕ). d == 47) (past_slash f c k) ∙ not_digit 47 (slice_index c k) refl digit in
    ap (λ b. cond b (Some n) (rfind_below 47 (f ++ 47 ∷ c) n)) none ∙ last_slash f c k n all (omega (arith, here)) (omega (arith, below))

split_there : (f c : List ℕ) → list_all is_hex_digit c ≡ true → (rest : List ℕ) × (rsplit_once 47 (f ++ 47 ∷ c) ≡ Some (f, rest))
unfolding rsplit_once
split_there f c all =
    let size = length-append f (47 ∷ c) in
    let found = last_slash f c (length c) (length (f ++ 47 ∷ c)) all (omega (arith, size)) (omega arith) in
    (drop (length f + 1) (f ++ 47 ∷ c), rw found (ap (λ (l : List ℕ). Some (l, drop (length f + 1) (f ++ 47 ∷ c))) (take-append_seam f (47 ∷ c))))

not_root : (x : List ℕ) → 1 < length x → bytes_eq x root_dir ≡ false
not_root x long = by (bytes_eq x root_dir) refl
  where
    by : (b : Bool) → bytes_eq x root_dir ≡ b → b ≡ false
    by true e = absurd (let same : x ≡ root_dir = (bytes_eq-Decides x root_dir).0 e in let size = ap (λ (l : List ℕ). length l) same in omega (arith, size, long))
    by false e = refl

not_empty : (x : List ℕ) → 0 < length x → (length x == 0) ≡ false
not_empty x some = by (length x == 0) refl
  where
    by : (b : Bool) → (length x == 0) ≡ b → b ≡ false
    by true e = absurd (omega (arith, some, eqb-true (length x) 0 e))
    by false e = refl

-- the folder of a text of hex digits after such a text
parent_there : (f c : List ℕ) → EndsHex f → EndsHex c → list_all is_hex_digit c ≡ true → path_parent (f ++ 47 ∷ c) ≡ Some f
unfolding path_parent split_last_component
parent_there f c before e all =
    let size = length-append f (47 ∷ c) in
    let some = size_of f before in
    let ends : EndsHex (f ++ 47 ∷ c) = behind f (47 ∷ c) (behind (47 ∷ []) c e) in
    let split = split_there f c all in
    rw (trimmed (f ++ 47 ∷ c) ends, not_empty (f ++ 47 ∷ c) (omega (arith, size)), not_root (f ++ 47 ∷ c) (omega (arith, size, some)), split.1, not_empty f (omega (arith, some)), trimmed f before) refl

-- ---- joined texts

joined_slash : (f c : List ℕ) → EndsHex f → join f c ≡ f ++ 47 ∷ c
unfolding join
joined_slash f c e =
    let some = size_of f e in
    let last : length f - 1 ≡ length e.front = omega (arith, some) in
    rw (not_empty f (omega (arith, some)), last, not_last f e 47 refl) refl

-- a text and a name that ends with a hex digit
pub joined_ends : (f c : List ℕ) → EndsHex c → EndsHex (join f c)
unfolding join
joined_ends f c e = by (length f == 0) (slice_index f (length f - 1) == 47)
  where
    by : (a b : Bool) → EndsHex (cond a c (cond b (f ++ c) (f ++ 47 ∷ c)))
    by true b = e
    by false true = behind f c e
    by false false = behind f (47 ∷ c) (behind (47 ∷ []) c e)

pub folder_is : (f c : List ℕ) → EndsHex f → EndsHex c → list_all is_hex_digit c ≡ true → folder_of (join f c) ≡ f
folder_is f c before e all = ap folder_of (joined_slash f c before) ∙ ap (λ o. unwrap_or o (f ++ 47 ∷ c)) (parent_there f c before e all)

-- ---- names of hex digits are proper

none_ends : (x : List ℕ) → list_all is_hex_digit x ≡ true → list_any ends_name x ≡ false
none_ends [] all = refl
none_ends (c ∷ x) all =
    let here = (and_parts _ _ all).0 in
    rw (not_digit 47 c refl here, not_digit 0 c refl here) (none_ends x (and_parts _ _ all).1)

pub digits_proper : (c : ℕ) (x : List ℕ) → list_all is_hex_digit (c ∷ x) ≡ true → IsProperName (c ∷ x)
digits_proper c x all =
    let here = (and_parts _ _ all).0 in
    (rw (not_empty (c ∷ x) (omega arith), not_digit 46 c refl here) refl, rw (not_digit 46 c refl here) refl, none_ends (c ∷ x) all)
