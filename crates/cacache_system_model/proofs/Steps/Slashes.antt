-- The names of the path above.
use Rattle.std.proofs.{Common.{◌≡◌, ◌⊎◌, ◌≤◌, ◌<◌, ◌==◌, ◌||◌, ℕ, zero, suc, Bool, true, false, cond, if◌then◌else◌, List, [], ◌∷◌, ◌++◌, filter, get_or, take, drop, length, refl, sym, ap, subst, ◌∙◌, inl, inr, arith, append-nil, take-append-drop, drop-cons, drop_of_length-le, eqb-true, ne_eqb, length-take, length-append}, lemmas.{List.{Elements.{filter-append}, Folds.{list_any-append}}, Bool.{or_parts}}}
use Rattle.std.specs.{Prelude.{Option, None, Some, Result, Ok, Err, option_map}, List.{list_any}}
use Rattle.cacache_core.specs.{declared.errors.Fault.{Fault, TheVariants.{NotFound, InvalidInput}}, Paths.{Names, names_of, pieces, is_bad, is_above, is_name, ends_name, IsProperName}}
use Rattle.cacache_core.proofs.JoinedNames.{split-append, split_none}
use Rattle.cacache_system.specs.CallsOf.{last_slash, above_of, in_folder}
use Rattle.cacache_system_model.specs.Machine.{EndsInName, behind_slash}

-- the last of the first so many bytes that is a slash, if one is
data Slash (path : List ℕ) (found : Option ℕ) : Type 0 where
  no_slash : found ≡ None → list_any (λ b. b == 47) path ≡ false → Slash path found
  a_slash : (i : ℕ) → found ≡ Some i → i < length path → path ≡ take i path ++ 47 ∷ drop (suc i) path → list_any (λ b. b == 47) (drop (suc i) path) ≡ false → Slash path found

slash_at : (path : List ℕ) (n : ℕ) (c : Bool) → suc n ≤ length path → (get_or path n 0 == 47) ≡ c → list_any (λ b. b == 47) (drop (suc n) path) ≡ false
    → (list_any (λ b. b == 47) (drop n path) ≡ false → Slash path (last_slash path n)) → Slash path (if c then Some n else last_slash path n)
slash_at path n true within is none next =
    a_slash n refl within
    (sym (take-append-drop n path) ∙ ap (λ (l : List ℕ). take n path ++ l) (drop-cons path n 0 within) ∙ ap (λ (x : ℕ). take n path ++ x ∷ drop (suc n) path) (eqb-true (get_or path n 0) 47 is)) none
slash_at path n false within is none next =
    next (ap (list_any (λ b. b == 47)) (drop-cons path n 0 within) ∙ ap (λ (c : Bool). c || list_any (λ b. b == 47) (drop (suc n) path)) is ∙ none)

slash_from : (path : List ℕ) (n : ℕ) → n ≤ length path → list_any (λ b. b == 47) (drop n path) ≡ false → Slash path (last_slash path n)
slash_from path zero within none = no_slash refl none
slash_from path (suc n) within none =
    slash_at path n (get_or path n 0 == 47) within refl none (λ none_here. slash_from path n (omega arith) none_here)

slash_of : (path : List ℕ) → Slash path (last_slash path (length path))
slash_of path = slash_from path (length path) (omega arith) (ap (list_any (λ b. b == 47)) (drop_of_length-le path {i = length path} (omega arith)))

-- ---- names of a text

named_so : (path : List ℕ) (ns : Names) (x y : Bool) → (length path == 0) ≡ x → is_bad path ≡ y → (if x then Err NotFound else if y then Err InvalidInput else Ok (filter is_name (pieces path))) ≡ Ok ns
    → (is_bad path ≡ false) × (filter is_name (pieces path) ≡ ns)
named_so path ns true y e f is = absurd cc
named_so path ns false true e f is = absurd cc
named_so path ns false false e f is = (f, cc)

named : (path : List ℕ) (ns : Names) → names_of path ≡ Ok ns → (is_bad path ≡ false) × (filter is_name (pieces path) ≡ ns)
unfolding names_of
named path ns is = named_so path ns (length path == 0) (is_bad path) refl refl is

names_so : (path : List ℕ) → 0 < length path → is_bad path ≡ false → names_of path ≡ Ok (filter is_name (pieces path))
unfolding names_of
names_so path some fine =
    ap (λ (x : Bool). if x then Err NotFound else if is_bad path then Err InvalidInput else Ok (filter is_name (pieces path))) (ne_eqb (length path) 0 (λ none. omega (arith, some, none)))
    ∙ ap (λ (y : Bool). if y then Err InvalidInput else Ok (filter is_name (pieces path))) fine

pieces-slash : (u tail : List ℕ) → pieces (u ++ 47 ∷ tail) ≡ pieces u ++ pieces tail
unfolding pieces
pieces-slash u tail = split-append (λ b. b == 47) u 47 tail refl

one_piece : (tail : List ℕ) → list_any (λ b. b == 47) tail ≡ false → pieces tail ≡ tail ∷ []
unfolding pieces
one_piece tail none = split_none (λ b. b == 47) tail none

front_fine : (u tail : List ℕ) → is_bad (u ++ 47 ∷ tail) ≡ false → is_bad u ≡ false
front_fine u tail fine =
    let parts = or_parts (list_any (λ b. b == 0) (u ++ 47 ∷ tail)) (list_any is_above (pieces (u ++ 47 ∷ tail))) fine in
    let nul = or_parts (list_any (λ b. b == 0) u) (list_any (λ b. b == 0) (47 ∷ tail)) (sym (list_any-append (λ b. b == 0) u (47 ∷ tail)) ∙ parts.0) in
    let up = or_parts (list_any is_above (pieces u)) (list_any is_above (pieces tail))
    (sym (list_any-append is_above (pieces u) (pieces tail)) ∙ ap (list_any is_above) (sym (pieces-slash u tail)) ∙ parts.1) in
    ap (λ (x : Bool). x || list_any is_above (pieces u)) nul.0 ∙ up.0

-- names, with one more name after them or none
abbrev pub OneMore : Names → Names → Type 0
OneMore front all = (all ≡ front) ⊎ ((name : List ℕ) × (all ≡ front ++ name ∷ []))

last_name : (front : Names) (tail : List ℕ) (c : Bool) → is_name tail ≡ c → OneMore front (front ++ filter is_name (tail ∷ []))
last_name front tail true is = inr (tail, ap (λ (x : Bool). front ++ cond x (tail ∷ []) []) is)
last_name front tail false is = inl (ap (λ (x : Bool). front ++ cond x (tail ∷ []) []) is ∙ append-nil front)

no_names : (u : List ℕ) → length u ≡ 0 → filter is_name (pieces u) ≡ []
unfolding pieces
no_names [] none = refl
no_names (x ∷ u) none = absurd (omega arith)

-- the path above, and its names
pub record Above (path : List ℕ) (ns : Names) : Type 0 where
  pub upper : List ℕ
  pub is : above_of path ≡ Some upper
  pub shorter : length upper < length path
  pub front : Names
  pub named : names_of upper ≡ Ok front
  pub more : OneMore front ns

at_most_one : (path : List ℕ) (c : Bool) → is_name path ≡ c → 2 ≤ length (filter is_name (path ∷ [])) → ⊥
at_most_one path true is two = let one : length (filter is_name (path ∷ [])) ≡ 1 = ap (λ (x : Bool). length (cond x (path ∷ []) [])) is in omega arith
at_most_one path false is two = let none : length (filter is_name (path ∷ [])) ≡ 0 = ap (λ (x : Bool). length (cond x (path ∷ []) [])) is in omega arith

longer : (front ns : Names) → OneMore front ns → 2 ≤ length ns → 0 < length front
longer front ns (inl same) two = let e : length ns ≡ length front = ap (λ (l : Names). length l) same in omega arith
longer front ns (inr (name, same)) two = let e : length ns ≡ length (front ++ name ∷ []) = ap (λ (l : Names). length l) same in omega (arith, e, two, length-append front (name ∷ []))

some_at : (u : List ℕ) (n : ℕ) → length u ≡ n → 0 < length (filter is_name (pieces u)) → 0 < length u
some_at u zero none some = let e : length (filter is_name (pieces u)) ≡ 0 = ap (λ (l : Names). length l) (no_names u none) in absurd (omega arith)
some_at u (suc n) is some = omega arith

above_so : (path : List ℕ) (ns : Names) → Slash path (last_slash path (length path)) → is_bad path ≡ false → filter is_name (pieces path) ≡ ns → 2 ≤ length ns → Above path ns
above_so path ns (no_slash is none) fine same two =
    let one : filter is_name (pieces path) ≡ filter is_name (path ∷ []) = ap (filter is_name) (one_piece path none) in
    absurd (at_most_one path (is_name path) refl (subst (λ (l : Names). 2 ≤ length l) (sym same ∙ one) two))
above_so path ns (a_slash i is within cut none) fine same two =
    let u = take i path in
    let tail = drop (suc i) path in
    let all : filter is_name (pieces path) ≡ filter is_name (pieces u) ++ filter is_name (tail ∷ [])
    = ap (λ (p : List ℕ). filter is_name (pieces p)) cut ∙ ap (filter is_name) (pieces-slash u tail ∙ ap (λ (l : Names). pieces u ++ l) (one_piece tail none)) ∙ filter-append is_name (pieces u) (tail ∷ []) in
    let front = filter is_name (pieces u) in
    let more : OneMore front ns = subst (OneMore front) (sym all ∙ same) (last_name front tail (is_name tail) refl) in
    record {
      upper = u;
      is = ap (option_map (λ i. take i path)) is;
      shorter = omega (arith, length-take i path, within);
      front = front;
      named = names_so u (some_at u (length u) refl (longer front ns more two)) (front_fine u tail (ap is_bad (sym cut) ∙ fine));
      more = more;
    }

-- the path of two names or more has one above it
pub above : (path : List ℕ) (ns : Names) → names_of path ≡ Ok ns → 2 ≤ length ns → Above path ns
above path ns is two = let n = named path ns is in above_so path ns (slash_of path) n.0 n.1 two

-- ---- names next to a path

-- the names of a path that ends with a name, and of other paths in its folder
pub record Beside (path : List ℕ) (ns : Names) : Type 0 where
  pub front : Names
  pub last : List ℕ
  pub is : ns ≡ front ++ last ∷ []
  pub other : (name : List ℕ) → IsProperName name → names_of (in_folder (above_of path) name) ≡ Ok (front ++ name ∷ [])

proper_fine : (name : List ℕ) → list_any ends_name name ≡ false → (list_any (λ b. b == 47) name ≡ false) × (list_any (λ b. b == 0) name ≡ false)
proper_fine [] e = (refl, refl)
proper_fine (x ∷ name) e =
    let parts = or_parts (ends_name x) (list_any ends_name name) e in
    let ends = or_parts (x == 47) (x == 0) parts.0 in
    let later = proper_fine name parts.1 in
    (ap (λ (c : Bool). c || list_any (λ b. b == 47) name) ends.0 ∙ later.0, ap (λ (c : Bool). c || list_any (λ b. b == 0) name) ends.1 ∙ later.1)

some_name : (name : List ℕ) → is_name name ≡ true → 0 < length name
some_name [] is = absurd cc
some_name (x ∷ name) is = omega arith

proper_named : (name : List ℕ) → IsProperName name → filter is_name (name ∷ []) ≡ name ∷ []
proper_named name proper = ap (λ (c : Bool). cond c (name ∷ []) []) proper.0

lone_fine : (name : List ℕ) → IsProperName name → is_bad name ≡ false
lone_fine name proper =
    let fine = proper_fine name proper.2 in
    ap (λ (c : Bool). c || list_any is_above (pieces name)) fine.1 ∙ ap (list_any is_above) (one_piece name fine.0) ∙ ap (λ (c : Bool). c || false) proper.1

below_fine : (u name : List ℕ) → is_bad u ≡ false → IsProperName name → is_bad (u ++ 47 ∷ name) ≡ false
below_fine u name fine proper =
    let parts = or_parts (list_any (λ b. b == 0) u) (list_any is_above (pieces u)) fine in
    let own = proper_fine name proper.2 in
    ap (λ (c : Bool). c || list_any is_above (pieces (u ++ 47 ∷ name)))
    (list_any-append (λ b. b == 0) u (47 ∷ name) ∙ ap (λ (c : Bool). c || list_any (λ b. b == 0) name) parts.0 ∙ own.1)
    ∙ ap (list_any is_above) (pieces-slash u name ∙ ap (λ (l : Names). pieces u ++ l) (one_piece name own.0))
    ∙ list_any-append is_above (pieces u) (name ∷ []) ∙ ap (λ (c : Bool). c || (is_above name || false)) parts.1 ∙ ap (λ (c : Bool). c || false) proper.1

named_below : (u name : List ℕ) → is_bad u ≡ false → IsProperName name → names_of (u ++ 47 ∷ name) ≡ Ok (filter is_name (pieces u) ++ name ∷ [])
named_below u name fine proper =
    names_so (u ++ 47 ∷ name) (omega (arith, length-append u (47 ∷ name))) (below_fine u name fine proper)
    ∙ ap (λ (l : Names). let r : Result Names Fault = Ok (filter is_name l) in r) (pieces-slash u name ∙ ap (λ (l : Names). pieces u ++ l) (one_piece name (proper_fine name proper.2).0))
    ∙ ap (λ (l : Names). let r : Result Names Fault = Ok l in r) (filter-append is_name (pieces u) (name ∷ []) ∙ ap (λ (l : Names). filter is_name (pieces u) ++ l) (proper_named name proper))

beside_so : (path : List ℕ) (ns : Names) → (found : Option ℕ) → Slash path found → found ≡ last_slash path (length path) → is_name (behind_slash found path) ≡ true
    → is_bad path ≡ false → filter is_name (pieces path) ≡ ns → Beside path ns
beside_so path ns found (no_slash is none) at named fine same =
    let lone : last_slash path (length path) ≡ None = sym at ∙ is in
    let own : is_name path ≡ true = ap (λ (o : Option ℕ). is_name (behind_slash o path)) (sym is) ∙ named in
    record {
      front = [];
      last = path;
      is = sym same ∙ ap (filter is_name) (one_piece path none) ∙ ap (λ (c : Bool). cond c (path ∷ []) []) own;
      other = λ name proper.
          ap (λ (o : Option ℕ). names_of (in_folder (option_map (λ i. take i path) o) name)) lone
          ∙ names_so name (some_name name proper.0) (lone_fine name proper)
          ∙ ap (λ (l : Names). let r : Result Names Fault = Ok (filter is_name l) in r) (one_piece name (proper_fine name proper.2).0)
          ∙ ap (λ (l : Names). let r : Result Names Fault = Ok l in r) (proper_named name proper);
    }
beside_so path ns found (a_slash i is within cut none) at named fine same =
    let u = take i path in
    let tail = drop (suc i) path in
    let here : last_slash path (length path) ≡ Some i = sym at ∙ is in
    let own : is_name tail ≡ true = ap (λ (o : Option ℕ). is_name (behind_slash o path)) (sym is) ∙ named in
    let all : filter is_name (pieces path) ≡ filter is_name (pieces u) ++ filter is_name (tail ∷ [])
    = ap (λ (p : List ℕ). filter is_name (pieces p)) cut ∙ ap (filter is_name) (pieces-slash u tail ∙ ap (λ (l : Names). pieces u ++ l) (one_piece tail none)) ∙ filter-append is_name (pieces u) (tail ∷ []) in
    record {
      front = filter is_name (pieces u);
      last = tail;
      is = sym same ∙ all ∙ ap (λ (c : Bool). filter is_name (pieces u) ++ cond c (tail ∷ []) []) own;
      other = λ name proper.
          ap (λ (o : Option ℕ). names_of (in_folder (option_map (λ i. take i path) o) name)) here
          ∙ named_below u name (front_fine u tail (ap is_bad (sym cut) ∙ fine)) proper;
    }

-- a name next to a path that ends with a name
pub beside : (path : List ℕ) (ns : Names) → names_of path ≡ Ok ns → EndsInName path → Beside path ns
beside path ns is ends = let n = named path ns is in beside_so path ns (last_slash path (length path)) (slash_of path) refl ends n.0 n.1
