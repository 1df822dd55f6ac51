-- Two trees whose nodes differ in bytes of files alone list and read alike.
use Rattle.std.proofs.{Common.{arith, rules, ◌≡◌, Bool, true, false, cond, List, [], ◌∷◌, Option, None, Some, length, option_map, refl, sym, ap, ap₂, subst, ◌∙◌, ◌⊎◌, inl, inr, ℕ, zero, suc, ◌++◌, Result, Ok, Err, get_or, append_assoc, bytes_eq}, lemmas.{Grind.{common_steps}, List.{append_cancel_left}}}
use Rattle.std.specs.{Prelude.{T, ◌&&◌, filter_map, map as each, slice_index_or}, List.{cons_option}, declared.cmp.Ordering.TheVariants.{Equal}, Ordering.{is_lt}, FinMap.Entries.{below_all, where_key, is_sorted-where_key, find-where_key, same_entries}}
use Rattle.cacache_core.specs.{Paths.{Names, names_of}, declared.errors.Fault.{Fault, TheVariants.{IsADirectory, TooDeep}}}
use Rattle.cacache_store.specs.declared.store.{answer.Kind.{Kind}, step.Step.TheVariants.{ReadDir}}
use Rattle.cacache_disk.specs.{declared.{node.Node.{Node, TheVariants.{Folder, File, Link}}, luck.Luck.TheVariants.{Plain}}, Tree.{Tree, look, names_cmp, same_path, listing, child_of, is_child, kind_of}, LedTo.{and_then, or_fault, through, way_fault, place, standing, where_there, where_folder, on_link, followed, leads, bytes_there, file_at, folder}, Apply.{apply, unless}}
use Rattle.cacache_disk.proofs.{Maps.{total, only}, FoundNodes.{and_then_ok, place_ok, standing_ok}}
use Rattle.cacache_laws.{proofs.trees.Children.{of_children, where_child, child_path, folder_found}, specs.trees.Collecting.{LinksLeadOut}}
use Rattle.cacache_value.{specs.Kinds.{Elsewhere, path_kind, IsFor}, proofs.{PathKinds.{inner_used, kind-below}, Applying.{of_names}}}
use Rattle.std.specs.FinMap as map
use Rattle.cacache_store.specs.declared.store.answer.Answer.TheVariants as answers

-- a node without a file's bytes
abbrev pub bare_node : Node → Node
bare_node Folder = Folder
bare_node (File bytes) = File []
bare_node (Link target) = Link target

-- what is there, without a file's bytes
abbrev pub shape : Option Node → Option Node
shape None = None
shape (Some Folder) = Some Folder
shape (Some (File bytes)) = Some (File [])
shape (Some (Link target)) = Some (Link target)

shape_is : (o : Option Node) → option_map bare_node o ≡ shape o
shape_is o = grind (arith, common_steps)

-- ---- entries

abbrev shaped : List (Names × Node) → List (Names × Node)
shaped es = each (λ e. (e.0, bare_node e.1)) es

find_at : (b : Bool) (node : Node) (o p : Option Node) → p ≡ option_map bare_node o → cond b (Some (bare_node node)) p ≡ option_map bare_node (cond b (Some node) o)
find_at b node o p e = grind (arith, common_steps)

find_shaped : (q : Names) (es : List (Names × Node)) → map.find names_cmp q (shaped es) ≡ option_map bare_node (map.find names_cmp q es)
find_shaped q [] = refl
find_shaped q (e ∷ es) = find_at (same_path q e.0) e.1 (map.find names_cmp q es) (map.find names_cmp q (shaped es)) (find_shaped q es)

below_shaped : (x : Names) (es : List (Names × Node)) → below_all names_cmp x (shaped es) ≡ below_all names_cmp x es
below_shaped x [] = refl
below_shaped x (e ∷ es) = ap (λ b. is_lt (names_cmp x e.0) && b) (below_shaped x es)

sorted_shaped : (es : List (Names × Node)) → map.is_sorted names_cmp (shaped es) ≡ map.is_sorted names_cmp es
sorted_shaped [] = refl
sorted_shaped (e ∷ es) = ap₂ (λ (a b : Bool). a && b) (below_shaped e.0 es) (sorted_shaped es)

kind_bare : (node : Node) → kind_of (bare_node node) ≡ kind_of node
kind_bare node = grind (arith, common_steps)

child_shaped : (p q : Names) (node : Node) → child_of p (q, bare_node node) ≡ child_of p (q, node)
child_shaped p q node = ap (λ (k : Kind). cond (is_child p q) (Some (record { name = slice_index_or q (length p) []; kind = k })) None) (kind_bare node)

children_shaped : (p : Names) (es : List (Names × Node)) → filter_map (child_of p) (shaped es) ≡ filter_map (child_of p) es
children_shaped p [] = refl
children_shaped p (e ∷ es) = ap₂ cons_option (child_shaped p e.0 e.1) (children_shaped p es)

-- ---- listings

pub shaped_listing : (t new : Tree) (p : Names) → ((q : Names) → is_child p q ≡ true → shape (look t q) ≡ shape (look new q)) → listing t p ≡ listing new p
unfolding listing
shaped_listing t new p same =
    let alike = λ (q x : Names) (tie : names_cmp q x ≡ Equal). ap (is_child p) (sym (only q x tie)) in
    let stands = λ (x : Tree) (q : Names). find_shaped q (map.entries x) ∙ ap (option_map bare_node) (sym (map.get-entries x q)) ∙ shape_is (look x q) in
    let found = λ (q : Names).
    find-where_key names_cmp (is_child p) q (alike q) (shaped (map.entries t))
    ∙ where_child (is_child p q) (map.find names_cmp q (shaped (map.entries t))) (map.find names_cmp q (shaped (map.entries new))) (λ is. stands t q ∙ same q is ∙ sym (stands new q))
    ∙ sym (find-where_key names_cmp (is_child p) q (alike q) (shaped (map.entries new))) in
    let sorted = λ (x : Tree). subst T (sym (sorted_shaped (map.entries x))) (map.entries_sorted x) in
    let kept = same_entries names_cmp total only (where_key names_cmp (is_child p) (shaped (map.entries t))) (where_key names_cmp (is_child p) (shaped (map.entries new)))
    (is_sorted-where_key names_cmp (is_child p) (shaped (map.entries t)) (sorted t)) (is_sorted-where_key names_cmp (is_child p) (shaped (map.entries new)) (sorted new)) found in
    sym (children_shaped p (map.entries t)) ∙ sym (of_children p (shaped (map.entries t))) ∙ ap (filter_map (child_of p)) kept
    ∙ of_children p (shaped (map.entries new)) ∙ children_shaped p (map.entries new)

-- ---- what one shape shows

through_of : (here : Option Node) (later : Option Fault) → through here later ≡ through (shape here) later
through_of here later = grind (arith, common_steps)

folder_of : (here : Option Node) (names : Names) → where_folder here names ≡ where_folder (shape here) names
folder_of here names = grind (arith, common_steps)

link_of : (here : Option Node) (names : Names) (go : List ℕ → Result Names Fault) → on_link here names go ≡ on_link (shape here) names go
link_of here names go = grind (arith, common_steps)

-- two that have one shape
through_same : (a b : Option Node) (later : Option Fault) → shape a ≡ shape b → through a later ≡ through b later
through_same a b later e = through_of a later ∙ ap (λ o. through o later) e ∙ sym (through_of b later)

folder_same : (a b : Option Node) (names : Names) → shape a ≡ shape b → where_folder a names ≡ where_folder b names
folder_same a b names e = folder_of a names ∙ ap (λ o. where_folder o names) e ∙ sym (folder_of b names)

link_same : (a b : Option Node) (names : Names) (go : List ℕ → Result Names Fault) → shape a ≡ shape b → on_link a names go ≡ on_link b names go
link_same a b names go e = link_of a names go ∙ ap (λ o. on_link o names go) e ∙ sym (link_of b names go)

next_same : {A B : Type 0} (r : Result A Fault) (f g : A → Result B Fault) → ((m : A) → r ≡ Ok m → f m ≡ g m) → and_then r f ≡ and_then r g
next_same r f g h = grind (arith, common_steps)

-- ---- an area of the cache's folder, and what lies in it

abbrev pub InArea : Names → List ℕ → Names → Type 0
InArea home area q = (rest : Names) × (q ≡ home ++ area ∷ rest)

-- a path outside of it
abbrev pub Clear : Names → List ℕ → Names → Type 0
Clear home area q = InArea home area q → ⊥

clear_above : (home : Names) (area : List ℕ) (p rest : Names) → Clear home area (p ++ rest) → Clear home area p
clear_above home area p rest clear (r, e) = clear (r ++ rest, ap (λ (n : Names). n ++ rest) e ∙ append_assoc home (area ∷ r) rest)

pub clear_out : (home : Names) (area : List ℕ) (q : Names) → path_kind (Some home) q ≡ Elsewhere → Clear home area q
clear_out home area q k (r, e) = inner_used (area ∷ r) (sym (kind-below home (area ∷ r)) ∙ ap (path_kind (Some home)) (sym e) ∙ k)

-- what lies below another name of the cache's folder
pub clear_area : (home : Names) (area : List ℕ) (rest : Names) (other : List ℕ) → bytes_eq other area ≡ false → bytes_eq other other ≡ true → Clear home area (home ++ other ∷ rest)
clear_area home area rest other apart self (r, e) =
    let below : other ∷ rest ≡ area ∷ r = append_cancel_left home (other ∷ rest) (area ∷ r) e in
    let same : other ≡ area = cc in
    let wrong : true ≡ false = sym self ∙ ap (bytes_eq other) same ∙ apart in
    cc

-- ---- both trees

-- a path shows the same in both, or a file whose bytes became these
abbrev pub SameOrLean : (Names → List ℕ → List ℕ → Type 0) → Tree → Tree → Names → Type 0
SameOrLean Lean t new q =
    (look new q ≡ look t q) ⊎ ((x : List ℕ) × (y : List ℕ) × Lean q x y × (look t q ≡ Some (File x)) × (look new q ≡ Some (File y)))

-- no bytes became others
abbrev pub NoneLean : Names → List ℕ → List ℕ → Type 0
NoneLean q x y = ⊥

-- it is so on the way to these paths, and out of the cache, where its links lead
pub record Sees (home : Names) (t new : Tree) (Lean : Names → List ℕ → List ℕ → Type 0) (IsEnd : Names → Type 0) : Type 0 where
  pub upper : (p rest : Names) (name : List ℕ) → IsEnd (p ++ name ∷ rest) → SameOrLean Lean t new p
  pub out_end : (q : Names) → path_kind (Some home) q ≡ Elsewhere → IsEnd q
  pub at_out : (q : Names) → path_kind (Some home) q ≡ Elsewhere → look new q ≡ look t q
  pub links : LinksLeadOut home t

-- trees that differ in an area alone
pub sees_clear : (home : Names) (t new : Tree) (Lean : Names → List ℕ → List ℕ → Type 0) (area : List ℕ) → ((q : Names) → Clear home area q → SameOrLean Lean t new q)
    → ((q : Names) (x y : List ℕ) → Lean q x y → path_kind (Some home) q ≡ Elsewhere → ⊥) → LinksLeadOut home t → Sees home t new Lean (Clear home area)
sees_clear home t new Lean area at_clear off out = record {
  upper = λ p rest name clear. at_clear p (clear_above home area p (name ∷ rest) clear);
  out_end = λ q k. clear_out home area q k;
  at_out = λ q k. elim (at_clear q (clear_out home area q k)) [ inl same ↦ same | inr lean ↦ absurd (off q lean.0 lean.1 lean.2 k) ];
  links = out;
}

placed_names : (t : Tree) (path : List ℕ) (names m : Names) → names_of path ≡ Ok names → place t path ≡ Ok m → m ≡ names
placed_names t path names m named e = let both : Ok m ≡ Ok names = sym (place_ok t path m e) ∙ named in cc

module _ (home : Names) (t new : Tree) (Lean : Names → List ℕ → List ℕ → Type 0) (IsEnd : Names → Type 0) (s : Sees home t new Lean IsEnd) where
  shape_at : (q : Names) → SameOrLean Lean t new q → shape (look new q) ≡ shape (look t q)
  shape_at q h = grind (arith, common_steps)

  way_same : (p rest : Names) → IsEnd (p ++ rest) → way_fault new p rest ≡ way_fault t p rest
  way_same p (name ∷ next ∷ rest) is =
      let longer : IsEnd ((p ++ name ∷ []) ++ next ∷ rest) = subst IsEnd (sym (append_assoc p (name ∷ []) (next ∷ rest))) is in
      through_same (look new (p ++ name ∷ [])) (look t (p ++ name ∷ [])) (way_fault new (p ++ name ∷ []) (next ∷ rest)) (shape_at (p ++ name ∷ []) (s.upper (p ++ name ∷ []) rest next longer))
      ∙ ap (through (look t (p ++ name ∷ []))) (way_same (p ++ name ∷ []) (next ∷ rest) longer)
  way_same p rest is = refl

  place_same : (path : List ℕ) (names : Names) → names_of path ≡ Ok names → IsEnd names → place new path ≡ place t path
  unfolding place
  place_same path names named is = rw named (ap (λ o. or_fault o names) (way_same [] names is))

  -- a folder at such a path
  folder_alike : (path : List ℕ) (names : Names) → names_of path ≡ Ok names → IsEnd names → SameOrLean Lean t new names → folder new path ≡ folder t path
  unfolding folder
  folder_alike path names named is here =
      ap (λ r. and_then r (λ n. where_folder (look new n) n)) (place_same path names named is)
      ∙ next_same (place t path) (λ n. where_folder (look new n) n) (λ n. where_folder (look t n) n)
      (λ m e. folder_same (look new m) (look t m) m (shape_at m (subst (SameOrLean Lean t new) (sym (placed_names t path names m named e)) here)))

  -- it is listed alike if its names show the same too
  pub dir_alike : (path : List ℕ) (names : Names) → names_of path ≡ Ok names → IsEnd names → SameOrLean Lean t new names → ((name : List ℕ) → SameOrLean Lean t new (names ++ name ∷ [])) → (apply new (ReadDir path) Plain).0 ≡ (apply t (ReadDir path) Plain).0
  unfolding apply
  dir_alike path names named is here deeper =
      ap (λ r. (unless r new (λ n. (answers.Names (listing new n), new))).0) (folder_alike path names named is here) ∙ by (folder t path) (λ m e. sym e)
    where
      folder_named : (m : Names) → folder t path ≡ Ok m → m ≡ names
      folder_named m e = let both : Ok m ≡ Ok names = sym (folder_found t path m e).0 ∙ named in cc

      by : (r : Result Names Fault) → ((m : Names) → r ≡ Ok m → Ok m ≡ folder t path) → (unless r new (λ n. (answers.Names (listing new n), new))).0 ≡ (unless r t (λ n. (answers.Names (listing t n), t))).0
      by (Err fault) h = refl
      by (Ok m) h =
          let same : m ≡ names = folder_named m (sym (h m refl)) in
          ap answers.Names (shaped_listing new t m (λ q child.
          let at : q ≡ m ++ get_or q (length m) [] ∷ [] = child_path m q child in
          shape_at q (subst (SameOrLean Lean t new) (ap (λ n. n ++ get_or q (length m) [] ∷ []) (sym same) ∙ sym at) (deeper (get_or q (length m) [])))))

  standing_same : (target : List ℕ) (r : Result Names Fault) → names_of target ≡ r → IsFor (Some home) Elsewhere target → standing new target ≡ standing t target
  unfolding standing place
  standing_same target r named leads_out = grind (arith, of_names, way_same)

  standing_out : (target : List ℕ) (names : Names) → IsFor (Some home) Elsewhere target → standing t target ≡ Ok names → path_kind (Some home) names ≡ Elsewhere
  standing_out target names leads_out e = of_names (λ n. path_kind (Some home) n ≡ Elsewhere) target names leads_out (standing_ok t target names e)

  link_on : (here : Option Node) (names : Names) (f g : List ℕ → Result Names Fault) → ((target : List ℕ) → here ≡ Some (Link target) → f target ≡ g target) → on_link here names f ≡ on_link here names g
  link_on here names f g h = grind (arith, common_steps)

  followed_same : (n : ℕ) (names : Names) → SameOrLean Lean t new names → followed n new names ≡ followed n t names
  unfolding followed
  followed_same zero names here = link_same (look new names) (look t names) names (λ target. Err TooDeep) (shape_at names here)
  followed_same (suc n) names here =
      link_same (look new names) (look t names) names (λ target. and_then (standing new target) (followed n new)) (shape_at names here)
      ∙ link_on (look t names) names (λ target. and_then (standing new target) (followed n new)) (λ target. and_then (standing t target) (followed n t))
      (λ target link.
      let leads_out = s.links names target link in
      ap (λ r. and_then r (followed n new)) (standing_same target (names_of target) refl leads_out)
      ∙ next_same (standing t target) (followed n new) (followed n t) (λ m e. followed_same n m (inl (s.at_out m (standing_out target m leads_out e)))))

  end_at : (here : Option Node) (names m : Names) (go : List ℕ → Result Names Fault) → ((target : List ℕ) → here ≡ Some (Link target) → go target ≡ Ok m → path_kind (Some home) m ≡ Elsewhere) → on_link here names go ≡ Ok m → (m ≡ names) ⊎ (path_kind (Some home) m ≡ Elsewhere)
  end_at here names m go h e = grind (arith, common_steps)

  followed_end : (n : ℕ) (names m : Names) → followed n t names ≡ Ok m → (m ≡ names) ⊎ (path_kind (Some home) m ≡ Elsewhere)
  unfolding followed
  followed_end zero names m e = end_at (look t names) names m (λ target. Err TooDeep) (λ target link wrong. absurd cc) e
  followed_end (suc n) names m e =
      end_at (look t names) names m (λ target. and_then (standing t target) (followed n t))
      (λ target link ok.
      let f = and_then_ok (standing t target) (followed n t) m ok in
      let k = standing_out target f.0 (s.links names target link) f.1 in
      elim (followed_end n f.0 m f.2) [ inl same ↦ ap (path_kind (Some home)) same ∙ k | inr there ↦ there ])
      e

  -- where such a path leads
  leads_same : (path : List ℕ) (names : Names) → names_of path ≡ Ok names → IsEnd names → SameOrLean Lean t new names → leads new path ≡ leads t path
  unfolding leads
  leads_same path names named is here = search (rules, place_same, next_same, followed_same, placed_names)

  leads_end : (path : List ℕ) (names m : Names) → names_of path ≡ Ok names → leads t path ≡ Ok m → (m ≡ names) ⊎ (path_kind (Some home) m ≡ Elsewhere)
  unfolding leads
  leads_end path names m named e =
      let f = and_then_ok (place t path) (followed 16 t) m e in
      elim (followed_end 16 f.0 m f.2) [ inl k ↦ inl (k ∙ placed_names t path names f.0 named f.1) | inr k ↦ inr k ]

  -- the same is read, or bytes that became others
  abbrev pub Alike : Names → Result (List ℕ) Fault → Result (List ℕ) Fault → Type 0
  Alike names now old = (now ≡ old) ⊎ ((x : List ℕ) × (y : List ℕ) × Lean names x y × (old ≡ Ok x) × (now ≡ Ok y))

  node_read : (names : Names) → SameOrLean Lean t new names → Alike names (bytes_there IsADirectory (look new names)) (bytes_there IsADirectory (look t names))
  node_read names h = grind (arith, common_steps)

  end_read : (names m : Names) → SameOrLean Lean t new names → (m ≡ names) ⊎ (path_kind (Some home) m ≡ Elsewhere) → Alike names (bytes_there IsADirectory (look new m)) (bytes_there IsADirectory (look t m))
  end_read names m here h = grind (arith, node_read)

  led_read : (names : Names) (r : Result Names Fault) → ((m : Names) → r ≡ Ok m → Alike names (bytes_there IsADirectory (look new m)) (bytes_there IsADirectory (look t m)))
      → Alike names (and_then r (λ n. bytes_there IsADirectory (look new n))) (and_then r (λ n. bytes_there IsADirectory (look t n)))
  led_read names r h = grind (arith, common_steps)

  pub file_alike : (path : List ℕ) (names : Names) → names_of path ≡ Ok names → IsEnd names → SameOrLean Lean t new names → Alike names (file_at new path IsADirectory) (file_at t path IsADirectory)
  unfolding file_at
  file_alike path names named is here =
      subst (λ r. Alike names (and_then r (λ n. bytes_there IsADirectory (look new n))) (and_then (leads t path) (λ n. bytes_there IsADirectory (look t n)))) (sym (leads_same path names named is here))
      (led_read names (leads t path) (λ m e. end_read names m here (leads_end path names m named e)))
