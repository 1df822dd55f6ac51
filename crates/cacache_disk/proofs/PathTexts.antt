-- The names and the folders of a path, one by one, and its text, piece by piece.
use Rattle.std.proofs.{lemmas.{Grind.{common_steps}, Bool.{or_parts, Decides.{nat_tests}}, List.{take_all, take_more, drop_all, Elements.{filter_more}, Folds.{list_any_more, list_any_at}}}, Common.{◌≡◌, ◌<◌, ◌+◌, ◌==◌, ◌||◌, ℕ, zero, suc, Bool, true, false, cond, subst, List, [], ◌∷◌, ◌++◌, length, take, filter, get_or, refl, ap, sym, ◌∙◌, arith, append-nil, ◌≤◌, ◌-◌, drop, drop-cons, add-one}}
use Rattle.std.specs.{Prelude.{Ok, Err, Option, None, Some}, List.{list_any, slice_split, onto_first, AllByRecursion}}
use Rattle.cacache_core.specs.{declared.errors.Fault.{Fault, TheVariants.{NotFound, InvalidInput}}, Paths.{Names, IsProperName, names_of, pieces, ends_name, is_above, is_name, is_bad, join, joined}}
use Rattle.cacache_disk.specs.{declared.node.Node.{Node, TheVariants.{Folder}}, Tree.{Tree, look, put}, Apply.{make_some, if_missing}, AllStanding.{path_text}}

-- one more item that passes the filter
pub filter_yes : {X : Type 0} (p : X → Bool) (all : List X) (n m : ℕ) (x : X) (old new : List X) → (n < length all) × (x ≡ get_or all n x) → m ≡ n + 1 → p x ≡ true
    → old ≡ filter p (take n all) → new ≡ old ++ x ∷ [] → new ≡ filter p (take m all)
filter_yes p all n m x old new here next is so more =
    more ∙ ap (λ l. l ++ x ∷ []) so ∙ sym (rw next (filter_more p all n x here.0 ∙ rw (sym here.1, is) refl))

-- one more item that doesn't
pub filter_no : {X : Type 0} (p : X → Bool) (all : List X) (n m : ℕ) (x : X) (old : List X) → (n < length all) × (x ≡ get_or all n x) → m ≡ n + 1 → p x ≡ false
    → old ≡ filter p (take n all) → old ≡ filter p (take m all)
filter_no p all n m x old here next is so =
    so ∙ sym (rw next (filter_more p all n x here.0 ∙ rw (sym here.1, is) (append-nil (filter p (take n all)))))

-- one more item that fails a test, as those before it do
pub none_yet : {X : Type 0} (p : X → Bool) (all : List X) (n m : ℕ) (x : X) → (n < length all) × (x ≡ get_or all n x) → m ≡ n + 1 → p x ≡ false
    → list_any p (take n all) ≡ false → list_any p (take m all) ≡ false
none_yet p all n m x here next is so = rw next (list_any_more p all n x here.0 ∙ rw (sym here.1, so, is) refl)

-- the item passes, so one of all does
pub one_passes : {X : Type 0} (p : X → Bool) (all : List X) (n : ℕ) (x : X) → (n < length all) × (x ≡ get_or all n x) → p x ≡ true → list_any p all ≡ true
one_passes p all n x here is = list_any_at p all n x here.0 (rw (sym here.1) is)

pub names_empty : (path : List ℕ) → (length path == 0) ≡ true → Err NotFound ≡ names_of path
unfolding names_of
names_empty path e = rw e refl

pub names_nul : (path : List ℕ) → (length path == 0) ≡ false → list_any (λ b. b == 0) path ≡ true → Err InvalidInput ≡ names_of path
unfolding names_of
names_nul path e nul = rw (e, nul) refl

pub names_above : (path : List ℕ) → (length path == 0) ≡ false → list_any (λ b. b == 0) path ≡ false → list_any is_above (pieces path) ≡ true → Err InvalidInput ≡ names_of path
unfolding names_of
names_above path e nul above = rw (e, nul, above) refl

-- every piece was passed
pub names_all : (path : List ℕ) (names : Names) (n : ℕ) → (length path == 0) ≡ false → list_any (λ b. b == 0) path ≡ false → n ≡ length (pieces path)
    → names ≡ filter is_name (take n (pieces path)) → list_any is_above (take n (pieces path)) ≡ false → Ok names ≡ names_of path
unfolding names_of
names_all path names n e nul last so above =
    let whole : take n (pieces path) ≡ pieces path = take_all n (pieces path) (omega (arith, last)) in
    let none : list_any is_above (pieces path) ≡ false = ap (list_any is_above) (sym whole) ∙ above in
    let all : names ≡ filter is_name (pieces path) = so ∙ ap (filter is_name) whole in
    rw (e, nul, none, all) refl

-- ---- a piece holds no slash, and no NUL if its text holds none

abbrev AreOpen : Names → Type 0
AreOpen parts = AllByRecursion (λ part. list_any ends_name part ≡ false) parts

none_more : {X : Type 0} (p : X → Bool) (x : X) (xs : List X) → p x ≡ false → list_any p xs ≡ false → list_any p (x ∷ xs) ≡ false
none_more p x xs first rest = rw (first, rest) refl

onto_open : (b : ℕ) (parts : Names) → ends_name b ≡ false → AreOpen parts → AreOpen (onto_first b parts)
onto_open b parts clean h = grind (arith, none_more)

neither : (x y rest : Bool) → x ≡ false → (y || rest) ≡ false → ((x || y) ≡ false) × (rest ≡ false)
neither x y rest e f = grind (arith, common_steps)

split_at : (b : ℕ) (text : List ℕ) (slash : Bool) → (b == 47) ≡ slash → list_any (λ b. b == 0) (b ∷ text) ≡ false → (list_any (λ b. b == 0) text ≡ false → AreOpen (slice_split (λ b. b == 47) text))
    → AreOpen (cond slash ([] ∷ slice_split (λ b. b == 47) text) (onto_first b (slice_split (λ b. b == 47) text)))
split_at b text true is nul more = (refl, more (or_parts (b == 0) _ nul).1)
split_at b text false is nul more =
    let f = neither (b == 47) (b == 0) (list_any (λ b. b == 0) text) is nul in
    onto_open b (slice_split (λ b. b == 47) text) f.0 (more f.1)

split_open : (text : List ℕ) → list_any (λ b. b == 0) text ≡ false → AreOpen (slice_split (λ b. b == 47) text)
split_open [] nul = (refl, tt)
split_open (b ∷ text) nul = split_at b text (b == 47) refl nul (split_open text)

open_at : (parts : Names) (n : ℕ) (d : List ℕ) → n < length parts → AreOpen parts → list_any ends_name (get_or parts n d) ≡ false
open_at [] n d h all = absurd (omega (arith, h))
open_at (part ∷ parts) zero d h all = all.0
open_at (part ∷ parts) (suc n) d h all = open_at parts n d (omega (arith, h)) all.1

-- a piece that names something is a proper name
pub piece_proper : (text : List ℕ) (n : ℕ) (piece name : List ℕ) → list_any (λ b. b == 0) text ≡ false → (n < length (pieces text)) × (piece ≡ get_or (pieces text) n piece)
    → is_name piece ≡ true → is_above piece ≡ false → name ≡ piece → IsProperName name
unfolding pieces
piece_proper text n piece name nul here named above same =
    let clean : list_any ends_name piece ≡ false = ap (list_any ends_name) here.1 ∙ open_at (pieces text) n piece here.0 (split_open text nul) in
    subst IsProperName (sym same) (named, above, clean)

-- ---- the names of a path are proper

-- what is left if neither of two tests stops
neither_stops : {A : Type 0} (a b : Bool) (x y : Fault) (all names : A) → cond a (Err x) (cond b (Err y) (Ok all)) ≡ Ok names → (b ≡ false) × (all ≡ names)
neither_stops a b x y all names e = grind (arith, common_steps)

proper_more : (b : Bool) (piece : List ℕ) (rest : Names) → is_name piece ≡ b → is_above piece ≡ false → list_any ends_name piece ≡ false
    → AllByRecursion IsProperName rest → AllByRecursion IsProperName (cond b (piece ∷ rest) rest)
proper_more b piece rest is above clean more = grind (arith, common_steps)

proper_pieces : (parts : Names) → AreOpen parts → list_any is_above parts ≡ false → AllByRecursion IsProperName (filter is_name parts)
proper_pieces [] clean above = tt
proper_pieces (part ∷ parts) clean above =
    let f = or_parts (is_above part) (list_any is_above parts) above in
    proper_more (is_name part) part (filter is_name parts) refl f.0 clean.0 (proper_pieces parts clean.1 f.1)

pub names_proper : (path : List ℕ) (names : Names) → names_of path ≡ Ok names → AllByRecursion IsProperName names
unfolding names_of pieces
names_proper path names e =
    let f = neither_stops (length path == 0) (is_bad path) NotFound InvalidInput (filter is_name (pieces path)) names e in
    let g = or_parts (list_any (λ b. b == 0) path) (list_any is_above (pieces path)) f.0 in
    subst (AllByRecursion IsProperName) f.1 (proper_pieces (pieces path) (split_open path g.0) g.1)

-- ---- the folders of a path, one by one

pub drop_here : (path : Names) (i : ℕ) (d : List ℕ) → i < length path → drop i path ≡ get_or path i d ∷ drop (i + 1) path
drop_here path i d h = let e : suc i ≤ length path = omega (arith, h) in rw add-one (drop-cons path i d e)

pub make_next : (t : Tree) (above path : Names) (i most : ℕ) (d : List ℕ) → i < length path
    → make_some t above (drop i path) most ≡ make_some
    (if_missing (look t (above ++ get_or path i d ∷ [])) (cond (most == 0) t (put t (above ++ get_or path i d ∷ []) Folder)) t)
    (above ++ get_or path i d ∷ [])
    (drop (i + 1) path)
    (if_missing (look t (above ++ get_or path i d ∷ [])) (most - 1) most)
make_next t above path i most d h = rw (drop_here path i d h)

pub drop_end : (t : Tree) (above path : Names) (i most : ℕ) → length path ≤ i → make_some t above (drop i path) most ≡ t
drop_end t above path i most e = rw (drop_all i path (omega arith))

-- the front of a path, one name longer
pub front_next : (path : Names) (i : ℕ) (d : List ℕ) → i < length path → take i path ++ get_or path i d ∷ [] ≡ take (i + 1) path
front_next path i d h = sym (take_more path i d h)

pub make_there : (t : Tree) (path : Names) (i most : ℕ) (here : Names) (node : Node) → i < length path → here ≡ take (i + 1) path → Some node ≡ look t here
    → make_some t (take i path) (drop i path) most ≡ make_some t (take (i + 1) path) (drop (i + 1) path) most
make_there t path i most here node h p l =
    let at : look t (take (i + 1) path) ≡ Some node = ap (look t) (sym p) ∙ sym l in
    make_next t (take i path) path i most [] h ∙ rw (front_next path i [] h, at)

pub make_missing : (t : Tree) (path : Names) (i most : ℕ) (here : Names) → i < length path → here ≡ take (i + 1) path → None ≡ look t here → 0 < most
    → make_some t (take i path) (drop i path) most ≡ make_some (put t here Folder) (take (i + 1) path) (drop (i + 1) path) (most - 1)
make_missing t path i most here h p l m =
    let at : look t (take (i + 1) path) ≡ None = ap (look t) (sym p) ∙ sym l in
    let some : (most == 0) ≡ false = grind (arith, nat_tests) in
    make_next t (take i path) path i most [] h ∙ rw (front_next path i [] h, at, some, p)

if_missing-same : {A : Type 0} (here : Option Node) (x : A) → if_missing here x x ≡ x
if_missing-same here x = grind (arith, common_steps)

pub make_none : (t : Tree) (above rest : Names) → make_some t above rest 0 ≡ t
make_none t above [] = refl
make_none t above (name ∷ rest) =
    rw (if_missing-same {A = Tree} (look t (above ++ name ∷ [])) t, if_missing-same {A = ℕ} (look t (above ++ name ∷ [])) 0) (make_none t (above ++ name ∷ []) rest)

-- ---- the text of a path, name by name

joined-snoc : (p : List ℕ) (names : Names) (name : List ℕ) → joined p (names ++ name ∷ []) ≡ join (joined p names) name
joined-snoc p [] name = refl
joined-snoc p (first ∷ names) name = joined-snoc (join p first) names name

-- one more name
pub text_next : (path : Names) (i : ℕ) (old new name d : List ℕ) → i < length path → old ≡ path_text (take i path) → name ≡ get_or path i d → new ≡ join old name
    → new ≡ path_text (take (i + 1) path)
text_next path i old new name d short before is joins =
    joins ∙ ap (λ p. join p name) before ∙ ap (join (path_text (take i path))) is
    ∙ sym (joined-snoc (47 ∷ []) (take i path) (get_or path i d)) ∙ ap path_text (front_next path i d short)
