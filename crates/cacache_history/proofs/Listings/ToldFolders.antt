-- What a listing of a folder says of the nodes in it.
use Rattle.std.proofs.{lemmas.{Grind.{common_steps}, Bool.{and_parts}, List.{take_all, get_or_at}}, Common.{◌≡◌, ◌⊎◌, inl, ◌+◌, ◌&&◌, ℕ, Bool, true, false, cond, List, [], ◌∷◌, ◌++◌, Option, None, Some, Result, Ok, Err, length, take, refl, sym, ap, subst, ◌∙◌, arith, eqb-true, ap₂}}
use Rattle.std.specs.{Prelude.{T, slice_index_or, filter_map}, List.{cons_option}, FinMap.Entries.{below_all}, declared.cmp.Ordering.{Ordering}, Ordering.{is_lt, is_eq, ordering_reverse}, Cmp.{eq_by_cmp_equiv}}
use Rattle.std.specs.FinMap as map
use Rattle.cacache_core.specs.{declared.errors.Fault.{Fault}, Paths.{Names, names_of}}
use Rattle.cacache_store.specs.declared.store.answer.{Kind.{Kind}, Name.{Name}}
use Rattle.cacache_disk.specs.{declared.{node.Node.{Node}, luck.Luck.{Luck}}, Tree.{Tree, look, names_cmp, same_path, is_child, kind_of, child_of, listing}, LedTo.{place, where_folder, folder}, Apply.{apply, unless}}
use Rattle.cacache_disk.proofs.{Maps.{total, same_path-true}, PutNodes.{eq-true}, PathTexts.{front_next}, FoundNodes.{and_then_ok, or_fault_none, place_ok}, KeptFolders.{is_child-snoc}}
use Rattle.cacache_store.specs.declared.store.step.Step.TheVariants as steps
use Rattle.cacache_store.specs.declared.store.answer.Answer.TheVariants as answers
use Rattle.cacache_calls.specs.Answers.{names_in}
use Rattle.cacache_value.proofs.Shows.{apply_answer}
use Rattle.cacache_history.proofs.Each.{Each, each_weaker}

-- ---- the entries of a map

pub both_parts : (a b : Bool) → T (a && b) → T a × T b
both_parts a b h = grind (arith, common_steps)

lt_apart : (r : Ordering) → T (is_lt r) → is_eq (ordering_reverse r) ≡ false
lt_apart r h = grind (arith, common_steps)

apart : (x y : Names) → T (is_lt (names_cmp x y)) → same_path y x ≡ false
apart x y h = ap is_eq (total.antisymm y x) ∙ lt_apart (names_cmp x y) h

IsFound : List (Names × Node) → Names × Node → Type 0
IsFound es e = map.find names_cmp e.0 es ≡ Some e.1

-- an entry before those that come after it doesn't hide them
later : (e : Names × Node) (es all : List (Names × Node)) → T (below_all names_cmp e.0 all) → Each (IsFound es) all → Each (IsFound (e ∷ es)) all
unfolding IsFound
later e es [] below h = tt
later e es (x ∷ xs) below h =
    let p = both_parts _ _ below in
    (ap (λ b. cond b (Some e.1) (map.find names_cmp x.0 es)) (apart e.0 x.0 p.0) ∙ h.0, later e es xs p.1 h.1)

each_found : (es : List (Names × Node)) → T (map.is_sorted names_cmp es) → Each (IsFound es) es
unfolding IsFound
each_found [] h = tt
each_found (e ∷ es) h =
    let p = both_parts _ _ h in
    (ap (λ b. cond b (Some e.1) (map.find names_cmp e.0 es)) ((eq_by_cmp_equiv total).refl e.0), later e es es p.0 (each_found es p.1))

StandsAt : Tree → Names × Node → Type 0
StandsAt t e = look t e.0 ≡ Some e.1

each_stands : (t : Tree) → Each (StandsAt t) (map.entries t)
unfolding IsFound StandsAt
each_stands t = each_weaker (IsFound (map.entries t)) (StandsAt t) (λ e is. map.get-entries t e.0 ∙ is) (map.entries t) (each_found (map.entries t) (map.entries_sorted t))

-- ---- the names in a folder

-- what a listing says of a name is true
pub record Told (t : Tree) (folder : Names) (n : Name) : Type 0 where
  pub node : Node
  pub stands : look t (folder ++ n.name ∷ []) ≡ Some node
  pub kind : n.kind ≡ kind_of node

child_is : (folder p : Names) → is_child folder p ≡ true → folder ++ slice_index_or p (length folder) [] ∷ [] ≡ p
child_is folder p e =
    let h = and_parts _ _ e in
    let l : length p ≡ length folder + 1 = eqb-true (length p) (length folder + 1) h.0 in
    let front : take (length folder) p ≡ folder = eq-true (take (length folder) p) folder (sym h.1) in
    ap (λ (q : Names). q ++ slice_index_or p (length folder) [] ∷ []) (sym front) ∙ front_next p (length folder) [] (omega (arith, l)) ∙ take_all (length folder + 1) p (omega (arith, l))

told_at : (t : Tree) (folder : Names) (e : Names × Node) (b : Bool) (rest : List Name) → is_child folder e.0 ≡ b → StandsAt t e → Each (Told t folder) rest
    → Each (Told t folder) (cons_option (cond b (Some (record { name = slice_index_or e.0 (length folder) []; kind = kind_of e.1 })) None) rest)
unfolding StandsAt
told_at t folder e b rest is stands h = grind (arith, child_is)

told_all : (t : Tree) (folder : Names) (es : List (Names × Node)) → Each (StandsAt t) es → Each (Told t folder) (filter_map (child_of folder) es)
told_all t folder [] h = tt
told_all t folder (e ∷ es) h = told_at t folder e (is_child folder e.0) (filter_map (child_of folder) es) refl h.0 (told_all t folder es h.1)

pub listing_told : (t : Tree) (folder : Names) → Each (Told t folder) (listing t folder)
unfolding listing
listing_told t folder = told_all t folder (map.entries t) (each_stands t)

pub folder_ok : (t : Tree) (path : List ℕ) (names : Names) → folder t path ≡ Ok names → names_of path ≡ Ok names
unfolding folder
folder_ok t path names e =
    let f = and_then_ok (place t path) (λ names. where_folder (look t names) names) names e in
    place_ok t path f.0 f.1 ∙ ap Ok (or_fault_none _ f.0 names f.2).1

-- ---- no name is listed twice

abbrev pub AreDistinct : List Name → Type 0
AreDistinct [] = Unit {0}
AreDistinct (n ∷ ns) = Each (λ m. n.name ≡ m.name → ⊥) ns × AreDistinct ns

-- an entry after another has another name
other_name : (folder : Names) (name : List ℕ) (e x : Names × Node) → folder ++ name ∷ [] ≡ e.0 → T (is_lt (names_cmp e.0 x.0)) → is_child folder x.0 ≡ true → name ≡ slice_index_or x.0 (length folder) [] → ⊥
other_name folder name e x here lt child same =
    let path : e.0 ≡ x.0 = sym here ∙ ap (λ n. folder ++ n ∷ []) same ∙ child_is folder x.0 child in
    let differ : false ≡ true = sym (apart e.0 x.0 lt) ∙ ap (same_path x.0) path ∙ (eq_by_cmp_equiv total).refl x.0 in
    cc

others_at : (folder : Names) (name : List ℕ) (e x : Names × Node) (b : Bool) (rest : List Name) → folder ++ name ∷ [] ≡ e.0 → T (is_lt (names_cmp e.0 x.0)) → is_child folder x.0 ≡ b
    → Each (λ m. name ≡ m.name → ⊥) rest → Each (λ m. name ≡ m.name → ⊥) (cons_option (cond b (Some (record { name = slice_index_or x.0 (length folder) []; kind = kind_of x.1 })) None) rest)
others_at folder name e x b rest here lt child h = grind (arith, other_name)

others : (folder : Names) (name : List ℕ) (e : Names × Node) (es : List (Names × Node)) → folder ++ name ∷ [] ≡ e.0 → T (below_all names_cmp e.0 es)
    → Each (λ m. name ≡ m.name → ⊥) (filter_map (child_of folder) es)
others folder name e [] here below = tt
others folder name e (x ∷ es) here below =
    let p = both_parts _ _ below in
    others_at folder name e x (is_child folder x.0) (filter_map (child_of folder) es) here p.0 refl (others folder name e es here p.1)

distinct_at : (folder : Names) (e : Names × Node) (es : List (Names × Node)) (b : Bool) → is_child folder e.0 ≡ b → T (below_all names_cmp e.0 es) → AreDistinct (filter_map (child_of folder) es)
    → AreDistinct (cons_option (cond b (Some (record { name = slice_index_or e.0 (length folder) []; kind = kind_of e.1 })) None) (filter_map (child_of folder) es))
distinct_at folder e es true child below h = (others folder (slice_index_or e.0 (length folder) []) e es (child_is folder e.0 child) below, h)
distinct_at folder e es false child below h = h

all_distinct : (folder : Names) (es : List (Names × Node)) → T (map.is_sorted names_cmp es) → AreDistinct (filter_map (child_of folder) es)
all_distinct folder [] h = tt
all_distinct folder (e ∷ es) h =
    let p = both_parts _ _ h in
    distinct_at folder e es (is_child folder e.0) refl p.0 (all_distinct folder es p.1)

pub listing_distinct : (t : Tree) (folder : Names) → AreDistinct (listing t folder)
unfolding listing
listing_distinct t folder = all_distinct folder (map.entries t) (map.entries_sorted t)

-- ---- each name in a folder is listed

abbrev pub IsAmong : Name → List Name → Type 0
IsAmong n [] = ⊥
IsAmong n (m ∷ ns) = (n ≡ m) ⊎ IsAmong n ns

-- the name of a child
child_name : Names → List ℕ → Node → Name
child_name folder name node = record { name = name; kind = kind_of node }

listed_at : (folder : Names) (name : List ℕ) (node : Node) (e : Names × Node) (rest : List Name) → same_path (folder ++ name ∷ []) e.0 ≡ true → e.1 ≡ node
    → IsAmong (child_name folder name node) (cons_option (child_of folder e) rest)
unfolding child_name
listed_at folder name node e rest same is =
    let path : folder ++ name ∷ [] ≡ e.0 = same_path-true (folder ++ name ∷ []) e.0 same in
    let child : is_child folder e.0 ≡ true = ap (is_child folder) (sym path) ∙ is_child-snoc folder name in
    let own : name ≡ slice_index_or e.0 (length folder) [] = sym (get_or_at folder name [] [] (length folder) refl) ∙ ap (λ (q : Names). slice_index_or q (length folder) []) path in
    subst (λ b. IsAmong (child_name folder name node) (cons_option (cond b (Some (record { name = slice_index_or e.0 (length folder) []; kind = kind_of e.1 })) None) rest)) (sym child)
    (inl (ap₂ (λ (n : List ℕ) (k : Kind). record { name = n; kind = k }) own (ap kind_of (sym is))))

skip_at : (n : Name) (o : Option Name) (rest : List Name) → IsAmong n rest → IsAmong n (cons_option o rest)
skip_at n o rest h = grind (arith, common_steps)

found_at : (folder : Names) (name : List ℕ) (node : Node) (e : Names × Node) (es : List (Names × Node)) (b : Bool) → same_path (folder ++ name ∷ []) e.0 ≡ b
    → (map.find names_cmp (folder ++ name ∷ []) es ≡ Some node → IsAmong (child_name folder name node) (filter_map (child_of folder) es))
    → cond b (Some e.1) (map.find names_cmp (folder ++ name ∷ []) es) ≡ Some node → IsAmong (child_name folder name node) (cons_option (child_of folder e) (filter_map (child_of folder) es))
found_at folder name node e es b same more is = grind (arith, listed_at, skip_at, child_name)

among_found : (folder : Names) (name : List ℕ) (node : Node) (es : List (Names × Node)) → map.find names_cmp (folder ++ name ∷ []) es ≡ Some node
    → IsAmong (child_name folder name node) (filter_map (child_of folder) es)
among_found folder name node [] is = absurd cc
among_found folder name node (e ∷ es) is = found_at folder name node e es (same_path (folder ++ name ∷ []) e.0) refl (among_found folder name node es) is

pub child_listed : (t : Tree) (folder : Names) (name : List ℕ) (node : Node) → look t (folder ++ name ∷ []) ≡ Some node → IsAmong (record { name = name; kind = kind_of node }) (listing t folder)
unfolding listing child_name
child_listed t folder name node is = among_found folder name node (map.entries t) (sym (map.get-entries t (folder ++ name ∷ [])) ∙ is)

-- ---- the answer of a step that lists a folder

told_unless : (t : Tree) (path : List ℕ) (ns : List Name) (r : Result Names Fault) → folder t path ≡ r → names_in (unless r t (λ names. (answers.Names (listing t names), t))).0 ≡ Ok ns
    → (names : Names) × (names_of path ≡ Ok names) × Each (Told t names) ns × (listing t names ≡ ns)
told_unless t path ns (Ok names) is e =
    let same : listing t names ≡ ns = cc in
    (names, folder_ok t path names is, subst (Each (Told t names)) same (listing_told t names), same)
told_unless t path ns (Err fault) is e = absurd cc

pub names_told : (t : Tree) (path : List ℕ) (luck : Luck) (ns : List Name) → names_in (apply t (steps.ReadDir path) luck).0 ≡ Ok ns
    → (names : Names) × (names_of path ≡ Ok names) × Each (Told t names) ns × (listing t names ≡ ns)
names_told t path luck ns =
    apply_answer (λ a. names_in a ≡ Ok ns → (names : Names) × (names_of path ≡ Ok names) × Each (Told t names) ns × (listing t names ≡ ns)) (λ fault e. absurd cc) t (steps.ReadDir path) luck
    (λ most. told_unless t path ns (folder t path) refl)
