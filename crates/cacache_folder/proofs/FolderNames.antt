-- Names of files: where a path's last `/` is, names that end at a `/` or a NUL, and what an escaped name stands for.
use Rattle.std.specs.{Prelude.{◌≡◌, ◌||◌, ◌==◌, ℕ, Bool, true, false, List, [], ◌∷◌, ◌++◌, Result, Ok, Err, IfOk, Option, None, Some}, List.{list_any}}
use Rattle.std.proofs.{Common.{refl, ap, ◌∙◌, ◌≢◌, ◌⊎◌, ◌<◌, zero, suc, if◌then◌else◌, get_or, sym, subst, inl, inr, arith}, lemmas.Bool.Decides.{eqb_tells}}
use Rattle.cacache_core.specs.Paths.{ends_name}
use Rattle.hex.{specs.Hex.{IsBytes, encode_lower, decode_of}, proofs.HexLemmas.{decode_of-encode_lower}}
use Rattle.cacache_system.specs.{Seen.{mark}, CallsOf.{last_slash}}
use Rattle.cacache_folder.specs.Listings.{or_itself, raw_name}

either_first : (a b c d e : Bool) → (c || d) ≡ e → ((a || c) || (b || d)) ≡ ((a || b) || e)
either_first true b c d e h = refl
either_first false true true d e h = refl
either_first false true false d e h = refl
either_first false false c d e h = h

-- a name has a `/` or a NUL exactly if one of its bytes ends it
pub either_ends : (name : List ℕ)
    → (list_any (λ b. b == 47) name || list_any (λ b. b == 0) name) ≡ list_any ends_name name
either_ends [] = refl
either_ends (x ∷ xs) = either_first (x == 47) (x == 0) _ _ _ (either_ends xs)

-- ---- what an escaped name stands for

-- the bytes of some digits after the mark
behind_mark : (digits : List ℕ) → raw_name (mark ++ digits) ≡ or_itself (mark ++ digits) (decode_of digits)
behind_mark digits = refl

-- an escaped name stands for the bytes that it was made of
pub stands : {E : Type 0} (r : Result (List ℕ) E) (name : List ℕ) → IsBytes name
    → IfOk r (λ text. text ≡ mark ++ encode_lower name) → IfOk r (λ text. raw_name text ≡ name)
stands (Ok text) name bytes is =
    ap raw_name is ∙ behind_mark (encode_lower name)
    ∙ ap (or_itself (mark ++ encode_lower name)) (decode_of-encode_lower name bytes)
stands (Err e) name bytes is = tt

-- a text that is given in another form
pub told_as : {E : Type 0} (r : Result (List ℕ) E) (one other : List ℕ) → IfOk r (λ text. text ≡ one) → one ≡ other → IfOk r (λ text. text ≡ other)
told_as (Ok text) one other is same = is ∙ same
told_as (Err e) one other is same = tt

-- ---- where the last `/` of a path is

abbrev pick : ℕ → Option ℕ → Bool → Option ℕ
pick n x b = if b then Some n else x

none_step : (path : List ℕ) (n : ℕ) → get_or path n 0 ≢ 47 → (((get_or path n 0 == 47) ≡ true) × (get_or path n 0 ≡ 47)) ⊎ (((get_or path n 0 == 47) ≡ false) × (get_or path n 0 ≢ 47))
    → last_slash path (suc n) ≡ last_slash path n
none_step path n no_slash (inl yes_slash) = absurd (no_slash yes_slash.1)
none_step path n no_slash (inr not_slash) = ap (pick n (last_slash path n)) not_slash.0

pub no_slash : (path : List ℕ) (n : ℕ) → ((i : ℕ) → i < n → get_or path i 0 ≢ 47) → last_slash path n ≡ None
no_slash path zero h = refl
no_slash path (suc n) h =
    let less : (i : ℕ) → i < n → i < suc n = λ i l. omega arith in
    none_step path n (h n (omega arith)) (eqb_tells (get_or path n 0) 47) ∙ no_slash path n (λ i l. h i (less i l))

slash_step : (path : List ℕ) (n : ℕ) → get_or path n 0 ≡ 47 → (((get_or path n 0 == 47) ≡ true) × (get_or path n 0 ≡ 47)) ⊎ (((get_or path n 0 == 47) ≡ false) × (get_or path n 0 ≢ 47))
    → last_slash path (suc n) ≡ Some n
slash_step path n slash (inl is) = ap (pick n (last_slash path n)) is.0
slash_step path n slash (inr not_slash) = absurd (not_slash.1 slash)

mutual_step : (path : List ℕ) (k n : ℕ) → k < suc n → get_or path k 0 ≡ 47 → ((i : ℕ) → k < i → i < suc n → get_or path i 0 ≢ 47)
    → (k < n → last_slash path n ≡ Some k) → (((k == n) ≡ true) × (k ≡ n)) ⊎ (((k == n) ≡ false) × (k ≢ n)) → last_slash path (suc n) ≡ Some k
mutual_step path k n less here later before (inl same) =
    subst (λ (m : ℕ). last_slash path (suc n) ≡ Some m) (sym same.1)
    (slash_step path n (subst (λ (m : ℕ). get_or path m 0 ≡ 47) same.1 here) (eqb_tells (get_or path n 0) 47))
mutual_step path k n less here later before (inr other) =
    let apart : k ≢ n = other.1 in
    let lower : k < n = omega arith in
    none_step path n (later n lower (omega arith)) (eqb_tells (get_or path n 0) 47) ∙ before lower

pub found_slash : (path : List ℕ) (k n : ℕ) → k < n → get_or path k 0 ≡ 47 → ((i : ℕ) → k < i → i < n → get_or path i 0 ≢ 47) → last_slash path n ≡ Some k
found_slash path k zero less here later = absurd (omega arith)
found_slash path k (suc n) less here later =
    let up : (i : ℕ) → i < n → i < suc n = λ i l. omega arith in
    mutual_step path k n less here later (λ lower. found_slash path k n lower here (λ i a b. later i a (up i b))) (eqb_tells k n)
