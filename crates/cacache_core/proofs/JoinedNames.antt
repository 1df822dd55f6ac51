-- Cutting a list at each element that passes a test, and the text of names below a folder, read back as names.
use Rattle.std.proofs.{Common.{◌≡◌, ◌≢◌, ◌||◌, Bool, true, false, cond, List, [], ◌∷◌, ◌++◌, refl, ap, ◌∙◌, ◌==◌, ◌-◌, ◌+◌, ◌<◌, ℕ, Ok, length, take, slice_index, sym, ap₂, subst, arith, append_assoc, append-nil, take-append-drop, filter}, lemmas.{Bool.{eqb-true}, List.{drop_all, drop_more, nil_from_length, Elements.{All-head, All-tail, filter-append}, Folds.{list_any-append}}}}
use Rattle.std.specs.{List.{slice_split, onto_first, list_any}, Prelude.{All}}
use Rattle.cacache_core.specs.Paths.{Names, names_of, pieces, is_bad, is_above, is_name, ends_name, IsProperName, home_of, names_below, join, joined}

onto_first_some : {X : Type 0} (t : Bool) (x : X) (ps : List (List X)) → cond t ([] ∷ ps) (onto_first x ps) ≢ []
onto_first_some true x ps e = cc
onto_first_some false x [] e = cc
onto_first_some false x (p ∷ ps) e = cc

split_some : {X : Type 0} (p : X → Bool) (xs : List X) → slice_split p xs ≢ []
split_some p [] e = cc
split_some p (x ∷ xs) e = onto_first_some (p x) x (slice_split p xs) e

onto_first-append : {X : Type 0} (x : X) (ps qs : List (List X)) → ps ≢ [] → onto_first x (ps ++ qs) ≡ onto_first x ps ++ qs
onto_first-append x [] qs some = absurd (some refl)
onto_first-append x (p ∷ ps) qs some = refl

step : {X : Type 0} (t : Bool) (x : X) (ps qs rs : List (List X)) → ps ≢ [] → rs ≡ ps ++ qs
    → cond t ([] ∷ rs) (onto_first x rs) ≡ cond t ([] ∷ ps) (onto_first x ps) ++ qs
step true x ps qs rs some e = ap (λ l. [] ∷ l) e
step false x ps qs rs some e = ap (onto_first x) e ∙ onto_first-append x ps qs some

-- cutting two lists with such an element between them makes the parts of both
pub split-append : {X : Type 0} (p : X → Bool) (xs : List X) (y : X) (ys : List X) → p y ≡ true
    → slice_split p (xs ++ y ∷ ys) ≡ slice_split p xs ++ slice_split p ys
split-append p [] y ys passes = rw passes refl
split-append p (x ∷ xs) y ys passes =
    step (p x) x (slice_split p xs) (slice_split p ys) (slice_split p (xs ++ y ∷ ys)) (split_some p xs) (split-append p xs y ys passes)

pub or_parts : (a b : Bool) → (a || b) ≡ false → (a ≡ false) × (b ≡ false)
or_parts true b e = absurd cc
or_parts false b e = (refl, e)

-- a list in which no element passes is one part
pub split_none : {X : Type 0} (p : X → Bool) (xs : List X) → list_any p xs ≡ false → slice_split p xs ≡ xs ∷ []
split_none p [] none = refl
split_none p (x ∷ xs) none =
    let h = or_parts (p x) (list_any p xs) none in rw (h.0, split_none p xs h.1) refl

-- if no element passes the wider test, none passes the narrower one
pub none_of_fewer : {X : Type 0} (p q : X → Bool) → ((x : X) → q x ≡ false → p x ≡ false) → (xs : List X)
    → list_any q xs ≡ false → list_any p xs ≡ false
none_of_fewer p q fewer [] none = refl
none_of_fewer p q fewer (x ∷ xs) none =
    let h = or_parts (q x) (list_any q xs) none in rw (fewer x h.0, none_of_fewer p q fewer xs h.1) refl

-- ---- one name

no_slash : (n : List ℕ) → list_any ends_name n ≡ false → list_any (λ b. b == 47) n ≡ false
no_slash n clear = none_of_fewer (λ b. b == 47) ends_name (λ b h. (or_parts (b == 47) (b == 0) h).0) n clear

no_nul : (n : List ℕ) → list_any ends_name n ≡ false → list_any (λ b. b == 0) n ≡ false
no_nul n clear = none_of_fewer (λ b. b == 0) ends_name (λ b h. (or_parts (b == 47) (b == 0) h).1) n clear

one_piece : (n : List ℕ) → IsProperName n → pieces n ≡ n ∷ []
unfolding pieces
one_piece n proper = split_none (λ b. b == 47) n (no_slash n proper.2)

-- the names in a text
names_in : List ℕ → Names
names_in p = filter is_name (pieces p)

name_not_bad : (n : List ℕ) → IsProperName n → is_bad n ≡ false
name_not_bad n proper = rw (no_nul n proper.2, one_piece n proper, proper.1) refl

name_in_itself : (n : List ℕ) → IsProperName n → names_in n ≡ n ∷ []
unfolding names_in
name_in_itself n proper = rw (one_piece n proper, proper.0) refl

-- ---- a text after a slash

pieces-slash : (q b : List ℕ) → pieces (q ++ 47 ∷ b) ≡ pieces q ++ pieces b
unfolding pieces
pieces-slash q b = split-append (λ c. c == 47) q 47 b refl

or_swap : (a b c d : Bool) → ((a || b) || (c || d)) ≡ ((a || c) || (b || d))
or_swap true b c d = refl
or_swap false true true d = refl
or_swap false true false d = refl
or_swap false false c d = refl

or_false : (a : Bool) → (a || false) ≡ a
or_false true = refl
or_false false = refl

bad-slash : (q b : List ℕ) → is_bad (q ++ 47 ∷ b) ≡ (is_bad q || is_bad b)
bad-slash q b =
    ap₂ (λ (x y : Bool). x || y) (list_any-append (λ c. c == 0) q (47 ∷ b))
    (ap (list_any is_above) (pieces-slash q b) ∙ list_any-append is_above (pieces q) (pieces b))
    ∙ or_swap (list_any (λ c. c == 0) q) (list_any (λ c. c == 0) b) (list_any is_above (pieces q)) (list_any is_above (pieces b))

names-slash : (q b : List ℕ) → names_in (q ++ 47 ∷ b) ≡ names_in q ++ names_in b
unfolding names_in
names-slash q b = ap (filter is_name) (pieces-slash q b) ∙ filter-append is_name (pieces q) (pieces b)

no_names_in_nil : names_in [] ≡ []
unfolding names_in pieces
no_names_in_nil = refl

nil_not_bad : is_bad [] ≡ false
unfolding pieces
nil_not_bad = refl

-- ---- a name joined to a text

-- the new text has the names of the old one, then one more
record IsLonger (p n new : List ℕ) : Type 0 where
  names : names_in new ≡ names_in p ++ n ∷ []
  bad : is_bad new ≡ is_bad p

behind_slash : (p n : List ℕ) → IsProperName n → IsLonger p n (p ++ 47 ∷ n)
behind_slash p n proper = record {
  names = names-slash p n ∙ ap (λ ns. names_in p ++ ns) (name_in_itself n proper);
  bad = bad-slash p n ∙ ap (λ x. is_bad p || x) (name_not_bad n proper) ∙ or_false (is_bad p);
}

-- the old text ends in a slash
after_slash : (q n : List ℕ) → IsProperName n → IsLonger (q ++ 47 ∷ []) n ((q ++ 47 ∷ []) ++ n)
after_slash q n proper =
    let one = behind_slash q n proper in
    let same : (q ++ 47 ∷ []) ++ n ≡ q ++ 47 ∷ n = append_assoc q (47 ∷ []) n in
    record {
      names = ap names_in same ∙ one.names ∙ ap (λ ns. ns ++ n ∷ []) (sym (names-slash q [] ∙ ap (λ ns. names_in q ++ ns) no_names_in_nil ∙ append-nil (names_in q)));
      bad = ap is_bad same ∙ one.bad ∙ sym (bad-slash q [] ∙ ap (λ x. is_bad q || x) nil_not_bad ∙ or_false (is_bad q));
    }

last_is_slash : (p : List ℕ) → (length p == 0) ≡ false → slice_index p (length p - 1) ≡ 47 → p ≡ take (length p - 1) p ++ 47 ∷ []
last_is_slash [] e l = absurd cc
last_is_slash (c ∷ p) e l =
    let some : length (c ∷ p) - 1 < length (c ∷ p) = omega arith in
    sym (take-append-drop (length (c ∷ p) - 1) (c ∷ p))
    ∙ ap (λ x. take (length (c ∷ p) - 1) (c ∷ p) ++ x)
    (drop_more (c ∷ p) (length (c ∷ p) - 1) 0 some ∙ ap₂ (λ (x : ℕ) (y : List ℕ). x ∷ y) l (drop_all (length (c ∷ p) - 1 + 1) (c ∷ p) (omega arith)))

join_by_cases : (p n : List ℕ) (x y : Bool) → (length p == 0) ≡ x → (slice_index p (length p - 1) == 47) ≡ y → IsProperName n
    → IsLonger p n (cond x n (cond y (p ++ n) (p ++ 47 ∷ n)))
join_by_cases p n true y e l proper =
    let none : p ≡ [] = nil_from_length p (eqb-true (length p) 0 e) in
    subst (λ q. IsLonger q n n) (sym none) (record {
      names = name_in_itself n proper ∙ ap (λ ns. ns ++ n ∷ []) (sym no_names_in_nil);
      bad = name_not_bad n proper ∙ sym nil_not_bad;
    })
join_by_cases p n false true e l proper =
    subst (λ q. IsLonger q n (q ++ n)) (sym (last_is_slash p e (eqb-true (slice_index p (length p - 1)) 47 l))) (after_slash (take (length p - 1) p) n proper)
join_by_cases p n false false e l proper = behind_slash p n proper

join_is_longer : (p n : List ℕ) → IsProperName n → IsLonger p n (join p n)
unfolding join
join_is_longer p n proper = join_by_cases p n (length p == 0) (slice_index p (length p - 1) == 47) refl refl proper

-- ---- names joined to a text

joined_names : (p : List ℕ) (ns : Names) → All IsProperName ns → (names_in (joined p ns) ≡ names_in p ++ ns) × (is_bad (joined p ns) ≡ is_bad p)
joined_names p [] all = (sym (append-nil (names_in p)), refl)
joined_names p (n ∷ ns) all =
    let one = join_is_longer p n (All-head IsProperName n ns all) in
    let more = joined_names (join p n) ns (All-tail IsProperName n ns all) in
    (more.0 ∙ ap (λ l. l ++ ns) one.names ∙ append_assoc (names_in p) (n ∷ []) ns, more.1 ∙ one.bad)

some_names : (ms : Names) (n : List ℕ) (ns : Names) → ms ++ n ∷ ns ≡ [] → ⊥
some_names [] n ns e = cc
some_names (m ∷ ms) n ns e = cc

named_by_cases : (p path n : List ℕ) (ns : Names) (empty bad : Bool) → (length path == 0) ≡ empty → is_bad p ≡ bad
    → names_in path ≡ names_in p ++ n ∷ ns → is_bad path ≡ is_bad p → names_of path ≡ names_below (home_of p) (n ∷ ns)
unfolding names_of home_of names_in
named_by_cases p path n ns true bad e b is same =
    let none : path ≡ [] = nil_from_length path (eqb-true (length path) 0 e) in
    absurd (some_names (names_in p) n ns (sym is ∙ ap names_in none ∙ no_names_in_nil))
named_by_cases p path n ns false true e b is same = rw (e, same, b) refl
named_by_cases p path n ns false false e b is same = rw (e, same, b) (ap Ok is)

-- the text of names below a cache's folder reads as the folder's names, then these names
pub joined_texts_name : (cache : List ℕ) (ns : Names) → All IsProperName ns → 0 < length ns → names_of (joined cache ns) ≡ names_below (home_of cache) ns
joined_texts_name cache [] all some = absurd (omega arith)
joined_texts_name cache (n ∷ ns) all some =
    let j = joined_names cache (n ∷ ns) all in
    named_by_cases cache (joined cache (n ∷ ns)) n ns (length (joined cache (n ∷ ns)) == 0) (is_bad cache) refl refl j.0 j.1
