-- Every step leaves each node in a folder.
use Rattle.std.proofs.{lemmas.{Grind.{common_steps}, Bool.{eq-eqb}}, Common.{◌≡◌, ◌==◌, ◌+◌, ℕ, zero, suc, Bool, true, false, cond, List, ◌∷◌, ◌++◌, Option, None, Some, Ok, length, take, refl, sym, ap, subst, ◌∙◌, arith, eqb-true, length-append, append_assoc, append-nil}, Math.Seq.{take-append_seam}}
use Rattle.std.specs.{Prelude.{Result, IfOk, OnOk, OnErr, filter_map, slice_index_or, []}, List.{cons_option}, Ordering.{nat_cmp}, Bool.{nat_eq}, Cmp.Lexicographic.{pointwise, slice_cmp, lists_ties, texts_ties}}
use Rattle.std.specs.FinMap as map
use Rattle.cacache_core.specs.{declared.errors.Fault.{Fault}, Paths.{names_of}}
use Rattle.cacache_store.specs.{declared.store.step.Step.TheVariants.{MakeDirs, CreateTemp, Persist, Append, Symlink, Copy, Reflink, HardLink, RemoveFile, RemoveDir}, Plain.{PlainStep, PlainAnswer}}
use Rattle.cacache_disk.specs.{declared.{luck.Luck.{Luck}, node.Node.{Node, TheVariants.{Folder}}}, Tree.{Tree, Names, look, put, names_cmp, same_path, listing, child_of, is_child, kind_of, is_folder, Rooted}, LedTo.{and_then, or_fault, through, way_fault, place, standing, followed, leads, on_link, where_no_folder, where_there, writable, free, dirs, dirs_fault}, Apply.{apply}}
use Rattle.cacache_disk.proofs.{Changes.{TreeChange, NoChange, PutNode, MoveFile, MakeFolders, CutNode, Makes, by_changes, made_by}, Maps.{same_path-true}, PathTexts.{names_proper}, FoundNodes.{and_then_ok, or_fault_none, place_ok, no_folder_at, there_at, free_ok, kept_ok, replaceable_ok, removable_ok, emptied_ok}, Roots.{CanStand, put_rooted, cut_rooted, file_cut, persist_rooted, make_rooted, same_self, IsBare}}

-- ---- the folder of a path

through_none : (here : Option Node) (later : Option Fault) → through here later ≡ None → (here ≡ Some Folder) × (later ≡ None)
through_none here later e = grind (arith, common_steps)

way_folder : (t : Tree) (path more : Names) (name : List ℕ) → look t path ≡ Some Folder → way_fault t path (more ++ name ∷ []) ≡ None
    → look t (path ++ more) ≡ Some Folder
way_folder t path [] name here e = ap (look t) (append-nil path) ∙ here
way_folder t path (n ∷ []) name here e = (through_none (look t (path ++ n ∷ [])) _ e).0
way_folder t path (n ∷ m ∷ more) name here e =
    let f = through_none (look t (path ++ n ∷ [])) (way_fault t (path ++ n ∷ []) (m ∷ more ++ name ∷ [])) e in
    ap (look t) (sym (append_assoc path (n ∷ []) (m ∷ more))) ∙ way_folder t (path ++ n ∷ []) (m ∷ more) name f.0 f.1

module _ (t : Tree) (rooted : Rooted t) where
  place_folder : (path : List ℕ) (names : Names) → place t path ≡ Ok names → CanStand t names
  unfolding place
  place_folder path names e =
      let f = and_then_ok (names_of path) (λ names. or_fault (way_fault t [] names) names) names e in
      let g = or_fault_none (way_fault t [] f.0) f.0 names f.2 in
      record {
        parent = λ above name is. way_folder t [] above name rooted.top (subst (λ n. way_fault t [] n ≡ None) (g.1 ∙ is) g.0);
        proper = names_proper path names (place_ok t path names e);
      }

  standing_folder : (path : List ℕ) (names : Names) → standing t path ≡ Ok names → CanStand t names
  unfolding standing
  standing_folder path names e =
      let f = and_then_ok (place t path) (λ n. where_there (look t n) n) names e in
      place_folder path names (f.1 ∙ ap Ok (there_at (look t f.0) f.0 names f.2))

  link_folder : (here : Option Node) (names new : Names) (go : List ℕ → Result Names Fault) → CanStand t names
      → ((target : List ℕ) → go target ≡ Ok new → CanStand t new) → on_link here names go ≡ Ok new → CanStand t new
  link_folder here names new go h on e = grind (arith, common_steps)

  followed_folder : (n : ℕ) (names new : Names) → CanStand t names → followed n t names ≡ Ok new → CanStand t new
  unfolding followed
  followed_folder zero names new h e = link_folder (look t names) names new _ h (λ target is. absurd cc) e
  followed_folder (suc n) names new h e =
      link_folder (look t names) names new (λ target. and_then (standing t target) (followed n t)) h
      (λ target is.
      let f = and_then_ok (standing t target) (followed n t) new is in
      followed_folder n f.0 new (standing_folder target f.0 f.1) f.2)
      e

  writable_folder : (path : List ℕ) (names : Names) → writable t path ≡ Ok names → CanStand t names × (is_folder (look t names) ≡ false)
  unfolding writable leads
  writable_folder path names e =
      let f = and_then_ok (leads t path) (λ names. where_no_folder (look t names) names) names e in
      let g = and_then_ok (place t path) (followed 16 t) f.0 f.1 in
      let h = no_folder_at (look t f.0) f.0 names f.2 in
      (subst (CanStand t) h.1 (followed_folder 16 g.0 f.0 (place_folder path g.0 g.1) g.2), subst (λ n. is_folder (look t n) ≡ false) h.1 h.0)

-- ---- an empty folder

pub is_child-snoc : (p : Names) (name : List ℕ) → is_child p (p ++ name ∷ []) ≡ true
is_child-snoc p name =
    let l : length (p ++ name ∷ []) ≡ length p + 1 = omega (arith, length-append p (name ∷ [])) in
    let front : take (length p) (p ++ name ∷ []) ≡ p = take-append_seam p (name ∷ []) in
    let same : pointwise (pointwise nat_eq) p p ≡ true = lists_ties (slice_cmp nat_cmp) texts_ties p p ∙ same_self p in
    rw (eq-eqb (length (p ++ name ∷ [])) (length p + 1) l, front, same) refl

some_items : {X : Type 0} (x : X) (xs : List X) → (length (x ∷ xs) == 0) ≡ true → ⊥
some_items x xs e = let l : length (x ∷ xs) ≡ 0 = eqb-true (length (x ∷ xs)) 0 e in omega arith

find_at : (p q : Names) (e : Names × Node) (es : List (Names × Node)) (b c : Bool) → same_path q e.0 ≡ b → is_child p e.0 ≡ c → is_child p q ≡ true
    → (length (cons_option (cond c (Some (record { name = slice_index_or e.0 (length p) []; kind = kind_of e.1 })) None) (filter_map (child_of p) es)) == 0) ≡ true
    → ((length (filter_map (child_of p) es) == 0) ≡ true → map.find names_cmp q es ≡ None) → cond b (Some e.1) (map.find names_cmp q es) ≡ None
find_at p q e es b c same child is none more = grind (arith, some_items, same_path-true)

find_none : (p q : Names) (es : List (Names × Node)) → is_child p q ≡ true → (length (filter_map (child_of p) es) == 0) ≡ true
    → map.find names_cmp q es ≡ None
find_none p q [] is none = refl
find_none p q (e ∷ es) is none = find_at p q e es (same_path q e.0) (is_child p e.0) refl refl is none (find_none p q es is)

empty_bare : (t : Tree) (p : Names) → (length (listing t p) == 0) ≡ true → IsBare t p
unfolding listing
empty_bare t p none name = map.get-entries t (p ++ name ∷ []) ∙ find_none p (p ++ name ∷ []) (map.entries t) (is_child-snoc p name) none

not_top : (p : Names) → (length p == 0) ≡ false → p ≡ [] → ⊥
not_top p e is = let differ : true ≡ false = ap (λ (n : Names). length n == 0) (sym is) ∙ e in cc

-- ---- every step

module _ (t : Tree) (rooted : Rooted t) where
  put_free : (p : List ℕ) (names : Names) (node : Node) → free t p ≡ Ok names → Rooted (put t names node)
  put_free p names node e = let f = free_ok t p names e in put_rooted t names node rooted (place_folder t rooted p names f.2) f.1

  put_writable : (p : List ℕ) (names : Names) (node : Node) → writable t p ≡ Ok names → Rooted (put t names node)
  put_writable p names node e = let f = writable_folder t rooted p names e in put_rooted t names node rooted f.0 f.1

  change_rooted : (step : PlainStep) (c : TreeChange) → Makes t step c → Rooted (made_by t c)
  unfolding dirs
  change_rooted (MakeDirs p) (MakeFolders names most) m =
      let f = and_then_ok (names_of p) (λ names. or_fault (dirs_fault t [] names) names) names m in
      let g = or_fault_none (dirs_fault t [] f.0) f.0 names f.2 in
      make_rooted t [] names most rooted (names_proper p names (f.1 ∙ ap Ok g.1)) rooted.top (subst (λ n. dirs_fault t [] n ≡ None) g.1 g.0)
  change_rooted (CreateTemp p) (PutNode names node) m = put_free p names node m.0
  change_rooted (Persist f p) (MoveFile old new bytes) m =
      let h = replaceable_ok t p new m.2 in
      persist_rooted t old new bytes rooted (kept_ok t f.path old m.1).1 (place_folder t rooted p new h.2) h.1
  change_rooted (Append p line) (PutNode names node) m = put_writable p names node m
  change_rooted (Symlink target p) (PutNode names node) m = put_free p names node m.0
  change_rooted (Copy p q) (PutNode names node) m = put_writable q names node m
  change_rooted (Reflink p q) (PutNode names node) m = put_free q names node m
  change_rooted (HardLink p q) (PutNode names node) m = put_free q names node m.0
  change_rooted (RemoveFile p) (CutNode names) m = file_cut t names rooted (removable_ok t p names m).1
  change_rooted (RemoveDir p) (CutNode names) m = let f = emptied_ok t p names m in cut_rooted t names rooted (not_top names f.2) (empty_bare t names f.3)
  change_rooted step NoChange m = rooted
  change_rooted step c m = absurd m

pub steps_keep_rooted : (t : Tree) (step : PlainStep) (luck : Luck) → Rooted t → Rooted (apply t step luck).1
steps_keep_rooted t step luck rooted = by_changes Rooted t step luck (change_rooted t rooted step)

-- a change that is made or not
pub made_or_not : {X E : Type 0} (t new made : Tree) (r : Result X E) → Rooted t → Rooted made → OnOk r (new ≡ made) → OnErr r (new ≡ t) → Rooted new
made_or_not t new made r rooted whole ok err = grind (arith, common_steps)

-- the tree of a step's outcome
pub outcome_rooted : (t made : Tree) (step : PlainStep) (luck : Luck) (answer : PlainAnswer) → Rooted t → apply t step luck ≡ (answer, made) → Rooted made
outcome_rooted t made step luck answer rooted is = subst Rooted (ap (λ (r : PlainAnswer × Tree). r.1) is) (steps_keep_rooted t step luck rooted)

pub on_ok : {X E : Type 0} {A : Type 0} (r : Result X E) → A → OnOk r A
on_ok r a = grind (arith, common_steps)

pub if_on_ok : {X E F : Type 0} {A : Type 0} (r : Result (Result X E) F) → A → IfOk r (λ s. OnOk s A)
if_on_ok r a = grind (arith, on_ok)
