-- Outside files hold nothing of the cache.
use Rattle.std.proofs.{Common.{arith, rules, ◌≡◌, ◌==◌, ◌-◌, ◌+◌, ℕ, Bool, true, false, cond, List, [], ◌∷◌, ◌++◌, Option, None, Some, Ok, length, refl, sym, ap, subst, ◌∙◌, append_assoc, append-nil, bytes_eq}, lemmas.{Grind.{common_steps}, Bool.{false_from_ne_true}}}
use Rattle.cacache_core.specs.Paths.{content_names, bucket_names_of, names_of}
use Rattle.cacache_disk.specs.{declared.node.Node.{Node, TheVariants.{Folder, File}}, Tree.{Tree, Names, look, put, same_path, bare, is_folder, Rooted}, LedTo.{or_fault, dirs_fault, where_no_folder}, Apply.{planted, above_last, make_some, if_missing}}
use Rattle.cacache_disk.proofs.{Maps.{same_path-true}, PutNodes.{look-put}, FoundNodes.{no_folder_at, and_then_ok, or_fault_none}, Roots.{look-bare, bare_below, bare_rooted}, PlantedNodes.{Ends, empty, last, ends, above_last-snoc, planted_rooted}}
use Rattle.cacache_value.specs.{Kinds.{PathKind, Elsewhere, path_kind, kind_beside, node_below, is_path_of, IsFor}, Value.{blob_in, bucket_in, folders_below, value_of_tree}, Placed.{MayStand, Placed, with_files, LieApart, IsOpening}, ValueLaws.{FilesOpen}}
use Rattle.cacache_value.proofs.{PathKinds.{kind-below, further, inner_used}, PutValues.{node_below-put, same_value, placed_put}, Applying.{of_names}}

-- ---- paths that aren't below the cache's folder

abbrev IsOuter : Option Names → Names → Type 0
IsOuter home p = (name : List ℕ) (rest : Names) → is_path_of home (name ∷ rest) p ≡ false

-- above a path apart from the cache
outer : (home : Option Names) (p more : Names) → path_kind home (p ++ more) ≡ Elsewhere → IsOuter home p
outer None p more e name rest = refl
outer (Some home) p more e name rest =
    false_from_ne_true (same_path (home ++ name ∷ rest) p) (λ s.
    let is : home ++ name ∷ rest ≡ p = same_path-true (home ++ name ∷ rest) p s in
    inner_used ((name ∷ rest) ++ more) (sym (kind-below home ((name ∷ rest) ++ more)) ∙ ap (kind_beside home) (sym (append_assoc home (name ∷ rest) more) ∙ ap (λ q. q ++ more) is) ∙ e))

folder_suits_at : (home : Option Names) (b : Bool) (old new : PathKind) → (old ≡ Elsewhere → MayStand home (Some Folder) new)
    → cond b old Elsewhere ≡ Elsewhere → MayStand home (Some Folder) (cond b new Elsewhere)
folder_suits_at home b old new h e = grind (arith, common_steps)

folder_suits_in : (all : Option Names) (home p more : Names) → kind_beside home (p ++ more) ≡ Elsewhere → MayStand all (Some Folder) (kind_beside home p)
folder_suits_in all [] p more e = absurd (inner_used (p ++ more) e)
folder_suits_in all (n ∷ home) [] more e = tt
folder_suits_in all (n ∷ home) (first ∷ p) more e = folder_suits_at all (bytes_eq n first) (kind_beside home (p ++ more)) (kind_beside home p) (folder_suits_in all home p more) e

folder_suits : (home : Option Names) (p more : Names) → path_kind home (p ++ more) ≡ Elsewhere → MayStand home (Some Folder) (path_kind home p)
folder_suits None p more e = tt
folder_suits (Some home) p more e = folder_suits_in (Some home) home p more e

-- a node put there isn't seen
outer_folders : (home : Option Names) (t : Tree) (p : Names) (node : Node) (q : Names) → IsOuter home p
    → folders_below home (λ n. is_folder (look (put t p node) n)) q ≡ folders_below home (λ n. is_folder (look t n)) q
outer_folders None t p node q apart = refl
outer_folders (Some home) t p node [] apart = refl
outer_folders (Some home) t p node (name ∷ rest) apart = ap is_folder (look-put t p node (home ++ name ∷ rest) ∙ ap (λ b. cond b (Some node) (look t (home ++ name ∷ rest))) (apart name rest))

outer_put : (home : Option Names) (t : Tree) (p : Names) (node : Node) → IsOuter home p → value_of_tree home (put t p node) ≡ value_of_tree home t
outer_put home t p node apart =
    same_value _ _
    (λ a. ap blob_in (node_below-put home t p node (content_names a) ∙ ap (λ b. cond b (Some node) (node_below home t (content_names a))) (apart _ _)))
    (λ h. ap bucket_in (node_below-put home t p node (bucket_names_of h) ∙ ap (λ b. cond b (Some node) (node_below home t (bucket_names_of h))) (apart _ _)))
    (λ q. outer_folders home t p node q apart)

-- ---- the folders above a file apart from the cache

abbrev IsSame : Option Names → Tree → Tree → Type 0
IsSame home t new = Placed home new × (value_of_tree home new ≡ value_of_tree home t)

made_at : (home : Option Names) (p rest more : Names) (t : Tree) (here : Option Node) (count : ℕ) (b : Bool) → path_kind home (p ++ more) ≡ Elsewhere
    → Placed home t
    → ((new : Tree) (count : ℕ) → Placed home new → IsSame home new (make_some new p rest count))
    → IsSame home t (make_some (if_missing here (cond b t (put t p Folder)) t) p rest (if_missing here (count - 1) count))
made_at home p rest more t None count true e placed h = h t (count - 1) placed
made_at home p rest more t None count false e placed h =
    let one = h (put t p Folder) (count - 1) (placed_put home t p Folder (folder_suits home p more e) placed) in
    (one.0, one.1 ∙ outer_put home t p Folder (outer home p more e))
made_at home p rest more t (Some node) count b e placed h = h t count placed

made_apart : (home : Option Names) (t : Tree) (above rest more : Names) (count : ℕ) → path_kind home (above ++ (rest ++ more)) ≡ Elsewhere → Placed home t
    → IsSame home t (make_some t above rest count)
made_apart home t above [] more count e placed = (placed, refl)
made_apart home t above (name ∷ rest) more count e placed =
    let next = further home Elsewhere above (rest ++ more) name e in
    made_at home (above ++ name ∷ []) rest (rest ++ more) t (look t (above ++ name ∷ [])) count (count == 0) next placed
    (λ new count p. made_apart home new (above ++ name ∷ []) rest more count next p)

-- ---- a file planted apart from the cache

module _ (home : Option Names) (t : Tree) (bytes : List ℕ) (placed : Placed home t) (rooted : Rooted t) where
  -- what stays
  Grows : Tree → Type 0
  Grows new = Placed home new × (value_of_tree home new ≡ value_of_tree home t)

  put_apart : (above : Names) (name : List ℕ) → path_kind home (above ++ name ∷ []) ≡ Elsewhere → dirs_fault t [] above ≡ None
      → is_folder (look t (above ++ name ∷ [])) ≡ false
      → Grows (put (make_some t [] above (length above)) (above ++ name ∷ []) (File bytes))
  unfolding Grows
  put_apart above name e f old =
      let t1 = make_some t [] above (length above) in
      let made = made_apart home t [] above (name ∷ []) (length above) e placed in (
        placed_put home (make_some t [] above (length above)) (above ++ name ∷ []) (File bytes) (subst (MayStand home (Some (File bytes))) (sym e) tt) made.0,
        outer_put home (make_some t [] above (length above)) (above ++ name ∷ []) (File bytes) (outer home (above ++ name ∷ []) [] (ap (path_kind home) (append-nil (above ++ name ∷ [])) ∙ e)) ∙ made.1,
      )

  planted_at : (names : Names) (new : Tree) → Ends names → path_kind home names ≡ Elsewhere → dirs_fault t [] (above_last names) ≡ None
      → is_folder (look t names) ≡ false
      → put (make_some t [] (above_last names) (length (above_last names))) names (File bytes) ≡ new → Grows new
  planted_at names new h k f old is = grind (arith, empty, last, above_last-snoc, put_apart)

  planted_grows : (path : List ℕ) (new : Tree) → IsFor home Elsewhere path → planted t path bytes ≡ Ok new → Grows new
  unfolding planted
  planted_grows path new apart e =
      let f = and_then_ok (names_of path) _ new e in
      let g = and_then_ok (or_fault (dirs_fault t [] (above_last f.0)) f.0) _ new f.2 in
      let h = and_then_ok (where_no_folder (look t g.0) g.0) _ new g.2 in
      let o = or_fault_none (dirs_fault t [] (above_last f.0)) f.0 g.0 g.1 in
      let n = no_folder_at (look t g.0) g.0 h.0 h.1 in
      let k = of_names (λ n. path_kind home n ≡ Elsewhere) path f.0 apart f.1 in
      planted_at h.0 new (ends h.0) (ap (path_kind home) (sym (o.1 ∙ n.1)) ∙ k) (ap (λ q. dirs_fault t [] (above_last q)) (sym (o.1 ∙ n.1)) ∙ o.0) (ap (λ q. is_folder (look t q)) (sym n.1) ∙ n.0) cc

-- so whoever plants one leaves the tree placed, and what the cache holds
pub planted_apart : (home : Option Names) (t new : Tree) (path bytes : List ℕ) → Placed home t → Rooted t → IsFor home Elsewhere path → planted t path bytes ≡ Ok new
    → Placed home new × (value_of_tree home new ≡ value_of_tree home t)
unfolding Grows
planted_apart home t new path bytes placed rooted apart e = planted_grows home t bytes placed rooted path new apart e

grown : (home : Option Names) (t new : Tree) (files : List (List ℕ × List ℕ)) → IsOpening home t → LieApart home files → with_files t files ≡ Ok new
    → IsOpening home new
unfolding Grows
grown home t new [] opens apart e = let same : t ≡ new = cc in subst (IsOpening home) same opens
grown home t new (file ∷ files) opens apart e =
    let f = and_then_ok (planted t file.0 file.1) (λ new. with_files new files) new e in
    let g = planted_grows home t file.1 opens.placed opens.rooted file.0 f.0 apart.0 f.1 in
    grown home f.0 new files (record { placed = g.0; rooted = planted_rooted t file.1 opens.rooted file.0 f.0 f.1; nothing = g.1 ∙ opens.nothing }) apart.1 f.2

-- ---- nothing but the top folder

bare_inner : (home : Option Names) (name : List ℕ) (rest : Names) → node_below home bare (name ∷ rest) ≡ None
bare_inner home name rest = grind (arith, bare_below)

bare_folders : (home : Option Names) (q : Names) → folders_below home (λ n. is_folder (look bare n)) q ≡ false
bare_folders home q = grind (arith, bare_below)

top_kind : (home : Option Names) → MayStand home (Some Folder) (path_kind home [])
top_kind None = tt
top_kind (Some []) = tt
top_kind (Some (name ∷ home)) = tt

bare_at : (home : Option Names) (q : Names) (b : Bool) → same_path q [] ≡ b → MayStand home (cond b (Some Folder) None) (path_kind home q)
bare_at home q true e = subst (λ r. MayStand home (Some Folder) (path_kind home r)) (sym (same_path-true q [] e)) (top_kind home)
bare_at home q false e = tt

bare_opens : (home : Option Names) → IsOpening home bare
bare_opens home = search (rules, look-bare, bare_at, bare_rooted, same_value, bare_inner, bare_folders)

pub files_open : FilesOpen
files_open home files t apart e = grown home bare t files (bare_opens home) apart e
