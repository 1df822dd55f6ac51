-- Paths as names: what a loop over pieces or files has found.
use Rattle.std.proofs.{Common.{◌≡◌, ◌==◌, ◌<◌, ◌≤◌, ◌+◌, ◌||◌, ◌&&◌, ◌⊎◌, inl, inr, ℕ, zero, suc, Bool, true, false, cond, not, List, [], ◌∷◌, None, Some, length, take, filter, get_or, refl, sym, ap, subst, ◌∙◌, arith}, lemmas.{Bool.{leb-true, leb-false}, List.{take_all}}}
use Rattle.std.specs.{Prelude.{Ok, Err, Result, min, nat_le}, Bool.{nat_eq}, Result.{result_ok}, List.{list_any}, Cmp.Lexicographic.{pointwise}}
use Rattle.cacache_core.specs.{declared.errors.Fault.{Fault}, Paths.{Names, home_of, names_of, pieces, is_above, is_name}}
use Rattle.cacache_history.specs.Setup.{are_apart, apart_from_text, apart_from_files, same_place, has_file}

-- ---- the names of a text

pub home_nul : (path : List ℕ) → list_any (λ b. b == 0) path ≡ true → None ≡ home_of path
unfolding home_of
home_nul path nul = rw (nul) refl

pub home_above : (path : List ℕ) → list_any (λ b. b == 0) path ≡ false → list_any is_above (pieces path) ≡ true → None ≡ home_of path
unfolding home_of
home_above path nul above = rw (nul, above) refl

-- every piece was passed
pub home_all : (path : List ℕ) (names : Names) (n : ℕ) → list_any (λ b. b == 0) path ≡ false → n ≡ length (pieces path)
    → names ≡ filter is_name (take n (pieces path)) → list_any is_above (take n (pieces path)) ≡ false → Some names ≡ home_of path
unfolding home_of
home_all path names n nul last so above =
    let whole : take n (pieces path) ≡ pieces path = take_all n (pieces path) (omega (arith, last)) in
    let none : list_any is_above (pieces path) ≡ false = ap (list_any is_above) (sym whole) ∙ above in
    let all : names ≡ filter is_name (pieces path) = so ∙ ap (filter is_name) whole in
    rw (nul, none, all) refl

pub no_names : (path : List ℕ) → (length path == 0) ≡ true → None ≡ result_ok (names_of path)
unfolding names_of
no_names path e = rw e refl

-- ---- paths that lie apart

-- the fronts of two paths, as long as the shorter one, decide
apart_fronts : (ns ms : Names) (c : ℕ) → c ≤ length ns → c ≤ length ms → (length ns ≤ c) ⊎ (length ms ≤ c)
    → not (pointwise (pointwise nat_eq) (take c ns) (take c ms)) ≡ are_apart ns ms
apart_fronts [] ms zero a b e = refl
apart_fronts [] ms (suc c) a b e = absurd (omega (arith, a))
apart_fronts (n ∷ ns) [] zero a b e = refl
apart_fronts (n ∷ ns) [] (suc c) a b e = absurd (omega (arith, b))
apart_fronts (n ∷ ns) (m ∷ ms) zero a b (inl e) = absurd (omega (arith, e))
apart_fronts (n ∷ ns) (m ∷ ms) zero a b (inr e) = absurd (omega (arith, e))
apart_fronts (n ∷ ns) (m ∷ ms) (suc c) a b e = by (pointwise nat_eq n m) (apart_fronts ns ms c (omega (arith, a)) (omega (arith, b)) (less e))
  where
    less : (length (n ∷ ns) ≤ suc c) ⊎ (length (m ∷ ms) ≤ suc c) → (length ns ≤ c) ⊎ (length ms ≤ c)
    less (inl h) = inl (omega (arith, h))
    less (inr h) = inr (omega (arith, h))

    by : (x : Bool) → not (pointwise (pointwise nat_eq) (take c ns) (take c ms)) ≡ are_apart ns ms
        → not (x && pointwise (pointwise nat_eq) (take c ns) (take c ms)) ≡ cond x (are_apart ns ms) true
    by true h = h
    by false h = refl

shorter : (a b : ℕ) (c : Bool) → nat_le a b ≡ c → (a ≤ min a b) ⊎ (b ≤ min a b)
shorter a b true e = inl (omega (arith, leb-true a b e))
shorter a b false e = inr (omega (arith, leb-false a b e))

pub apart_by_fronts : (ns ms : Names) (c : ℕ) → c ≡ min (length ns) (length ms) → not (pointwise (pointwise nat_eq) (take c ns) (take c ms)) ≡ are_apart ns ms
apart_by_fronts ns ms c e =
    subst (λ c. not (pointwise (pointwise nat_eq) (take c ns) (take c ms)) ≡ are_apart ns ms) (sym e)
    (apart_fronts ns ms (min (length ns) (length ms)) (omega arith) (omega arith) (shorter (length ns) (length ms) (nat_le (length ns) (length ms)) refl))

-- apart from the files of a front, and not from the next one
pub one_near : (files : List (List ℕ × List ℕ)) (n : ℕ) (file : List ℕ × List ℕ) (path : Names) → n < length files → file ≡ get_or files n file
    → apart_from_text (names_of file.0) path ≡ false → false ≡ apart_from_files files path
one_near [] n file path below here near = absurd (omega (arith, below))
one_near (f ∷ files) zero file path below here near =
    let near' : apart_from_text (names_of f.0) path ≡ false = ap (λ (x : List ℕ × List ℕ). apart_from_text (names_of x.0) path) (sym here) ∙ near in
    rw near' refl
one_near (f ∷ files) (suc n) file path below here near = by (apart_from_text (names_of f.0) path) (one_near files n file path (omega (arith, below)) here near)
  where
    by : (b : Bool) → false ≡ apart_from_files files path → false ≡ (b && apart_from_files files path)
    by true h = h
    by false h = refl

apart_more-suc : (files : List (List ℕ × List ℕ)) (n : ℕ) (file : List ℕ × List ℕ) (path : Names) → n < length files → file ≡ get_or files n file
    → apart_from_text (names_of file.0) path ≡ true → apart_from_files (take n files) path ≡ true → apart_from_files (take (suc n) files) path ≡ true
apart_more-suc [] n file path below here apart before = absurd (omega (arith, below))
apart_more-suc (f ∷ files) zero file path below here apart before =
    let apart' : apart_from_text (names_of f.0) path ≡ true = ap (λ (x : List ℕ × List ℕ). apart_from_text (names_of x.0) path) (sym here) ∙ apart in
    rw apart' refl
apart_more-suc (f ∷ files) (suc n) file path below here apart before = by (apart_from_text (names_of f.0) path) (apart_more-suc files n file path (omega (arith, below)) here apart) before
  where
    by : (b : Bool) → (apart_from_files (take n files) path ≡ true → apart_from_files (take (suc n) files) path ≡ true)
        → (b && apart_from_files (take n files) path) ≡ true → (b && apart_from_files (take (suc n) files) path) ≡ true
    by true h e = h e
    by false h e = e

pub apart_more : (files : List (List ℕ × List ℕ)) (n : ℕ) (file : List ℕ × List ℕ) (path : Names) → n < length files → file ≡ get_or files n file
    → apart_from_text (names_of file.0) path ≡ true → apart_from_files (take n files) path ≡ true → apart_from_files (take (n + 1) files) path ≡ true
apart_more files n file path below here apart before =
    let next : suc n ≡ n + 1 = omega arith in
    subst (λ m. apart_from_files (take m files) path ≡ true) next (apart_more-suc files n file path below here apart before)

-- ---- paths that are the same

none_same : (r s : Result Names Fault) → None ≡ result_ok s → same_place r s ≡ false
none_same r (Ok found) e = absurd cc
none_same (Ok a) (Err fault) e = refl
none_same (Err f) (Err fault) e = refl

-- a text that names nothing is no file's
pub none_among : (files : List (List ℕ × List ℕ)) (text : List ℕ) → None ≡ result_ok (names_of text) → false ≡ has_file files text
none_among [] text e = refl
none_among (file ∷ files) text e = rw (none_same (names_of file.0) (names_of text) e) (none_among files text e)

pub one_here : (files : List (List ℕ × List ℕ)) (n : ℕ) (file : List ℕ × List ℕ) (text : List ℕ) → n < length files → file ≡ get_or files n file
    → same_place (names_of file.0) (names_of text) ≡ true → true ≡ has_file files text
one_here [] n file text below here same = absurd (omega (arith, below))
one_here (f ∷ files) zero file text below here same =
    let same' : same_place (names_of f.0) (names_of text) ≡ true = ap (λ (x : List ℕ × List ℕ). same_place (names_of x.0) (names_of text)) (sym here) ∙ same in
    rw same' refl
one_here (f ∷ files) (suc n) file text below here same = by (same_place (names_of f.0) (names_of text)) (one_here files n file text (omega (arith, below)) here same)
  where
    by : (b : Bool) → true ≡ has_file files text → true ≡ (b || has_file files text)
    by true h = refl
    by false h = h

not_yet-suc : (files : List (List ℕ × List ℕ)) (n : ℕ) (file : List ℕ × List ℕ) (text : List ℕ) → n < length files → file ≡ get_or files n file
    → same_place (names_of file.0) (names_of text) ≡ false → has_file (take n files) text ≡ false → has_file (take (suc n) files) text ≡ false
not_yet-suc [] n file text below here other before = absurd (omega (arith, below))
not_yet-suc (f ∷ files) zero file text below here other before =
    let other' : same_place (names_of f.0) (names_of text) ≡ false = ap (λ (x : List ℕ × List ℕ). same_place (names_of x.0) (names_of text)) (sym here) ∙ other in
    rw other' refl
not_yet-suc (f ∷ files) (suc n) file text below here other before = by (same_place (names_of f.0) (names_of text)) (not_yet-suc files n file text (omega (arith, below)) here other) before
  where
    by : (b : Bool) → (has_file (take n files) text ≡ false → has_file (take (suc n) files) text ≡ false)
        → (b || has_file (take n files) text) ≡ false → (b || has_file (take (suc n) files) text) ≡ false
    by true h e = e
    by false h e = h e

pub not_yet : (files : List (List ℕ × List ℕ)) (n : ℕ) (file : List ℕ × List ℕ) (text : List ℕ) → n < length files → file ≡ get_or files n file
    → same_place (names_of file.0) (names_of text) ≡ false → has_file (take n files) text ≡ false → has_file (take (n + 1) files) text ≡ false
not_yet files n file text below here other before =
    let next : suc n ≡ n + 1 = omega arith in
    subst (λ m. has_file (take m files) text ≡ false) next (not_yet-suc files n file text below here other before)
