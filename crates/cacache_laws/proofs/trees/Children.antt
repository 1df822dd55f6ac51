-- What a listing of a folder says of the nodes in it.
-- Trees with the same nodes in a folder list it alike.
use Rattle.std.proofs.{Common.{◌≡◌, inl, inr, ◌+◌, ℕ, Bool, true, false, cond, List, [], ◌∷◌, ◌++◌, Option, None, Some, Ok, Err, length, take, drop, get_or, refl, sym, ap, ap₂, subst, ◌∙◌, arith, eqb-true, append_assoc, take-append-drop}, Math.Seq.{get_or-append_seam}, lemmas.{List.{drop_more, drop_all}, Bool.{and_parts, Decides.{Decides-eqb}}, Slice.Eq.{slice_eq-Decides}}}
use Rattle.std.specs.{Prelude.{Result, IfSome, T, slice_index_or, filter_map}, declared.cmp.Ordering.{Ordering, TheVariants.{Less, Equal}}, Ordering.{is_lt, is_eq}, FinMap.Entries.{below_all, where_key, is_sorted-where_key, find-where_key, same_entries}, Bool.{nat_eq}, Cmp.Lexicographic.{pointwise}, List.{cons_option}}
use Rattle.cacache_core.specs.{declared.errors.Fault.{Fault, TheVariants.{NotFound}}, Paths.{Names, names_of, IsProperName}}
use Rattle.cacache_store.specs.{declared.store.{answer.{Name.{Name}, Answer.TheVariants.{Names as Listed, Failed}}, step.Step.TheVariants.{ReadDir}}, Plain.{PlainAnswer}}
use Rattle.cacache_disk.specs.{declared.{luck.Luck.{Luck}, node.Node.{Node, TheVariants.{Folder}}}, Tree.{Tree, look, names_cmp, same_path, listing, child_of, is_child, kind_of, Rooted, AreProper}, LedTo.{place, where_folder, folder}, Apply.{apply, unless, made_up}}
use Rattle.cacache_disk.proofs.{Maps.{same_path-true, total, only}, Roots.{same_self}, Standing.{way_clear}, FoundNodes.{and_then_ok, place_ok}, KeptFolders.{is_child-snoc}}
use Rattle.cacache_value.proofs.Shows.{apply_answer}
use Rattle.cacache_walks.specs.Reading.{names_shown}
use Rattle.cacache_laws.proofs.trees.Members.{Member, mapped, source}
use Rattle.cacache_history.proofs.Listings.ToldFolders.{both_parts, folder_ok}
use Rattle.std.specs.FinMap as map

-- ---- a node that is there is listed

found_at : (q : Names) (e : Names × Node) (es : List (Names × Node)) (node : Node) (b : Bool) → same_path q e.0 ≡ b → (map.find names_cmp q es ≡ Some node → Member (q, node) es) → cond b (Some e.1) (map.find names_cmp q es) ≡ Some node → Member (q, node) (e ∷ es)
found_at q e es node true is later h = let same : e.1 ≡ node = cc in inl (ap₂ (λ (x : Names) (y : Node). (x, y)) (same_path-true q e.0 is) (sym same))
found_at q e es node false is later h = inr (later h)

found_in : (q : Names) (es : List (Names × Node)) (node : Node) → map.find names_cmp q es ≡ Some node → Member (q, node) es
found_in q [] node h = absurd cc
found_in q (e ∷ es) node h = found_at q e es node (same_path q e.0) refl (found_in q es node) h

child_is : (p : Names) (name : List ℕ) (node : Node) → child_of p (p ++ name ∷ [], node) ≡ Some (record { name = name; kind = kind_of node })
child_is p name node = rw (is_child-snoc p name) (ap (λ (n : List ℕ). Some (record { name = n; kind = kind_of node })) (get_or-append_seam p name [] []))

pub child_listed : (t : Tree) (p : Names) (name : List ℕ) (node : Node) → look t (p ++ name ∷ []) ≡ Some node → Member (record { name = name; kind = kind_of node }) (listing t p)
unfolding listing
child_listed t p name node stands = mapped (child_of p) (p ++ name ∷ [], node) _ (map.entries t) (found_in (p ++ name ∷ []) (map.entries t) node (sym (map.get-entries t (p ++ name ∷ [])) ∙ stands)) (child_is p name node)

-- ---- and what is listed is there

below_member : (x : Names) (e : Names × Node) (es : List (Names × Node)) → T (below_all names_cmp x es) → Member e es → T (is_lt (names_cmp x e.0))
below_member x e [] h m = absurd m
below_member x e (y ∷ es) h (inl same) = subst (λ (z : Names × Node). T (is_lt (names_cmp x z.0))) (sym same) (both_parts (is_lt (names_cmp x y.0)) (below_all names_cmp x es) h).0
below_member x e (y ∷ es) h (inr m) = below_member x e es (both_parts (is_lt (names_cmp x y.0)) (below_all names_cmp x es) h).1 m

not_both : (o : Ordering) → T (is_lt o) → is_eq o ≡ true → ⊥
not_both Less a e = absurd cc
not_both o a e = a

apart_at : (x q : Names) (b : Bool) → same_path q x ≡ b → T (is_lt (names_cmp x q)) → b ≡ false
apart_at x q true is lt = absurd (not_both (names_cmp q q) (subst (λ (z : Names). T (is_lt (names_cmp z q))) (sym (same_path-true q x is)) lt) (same_self q))
apart_at x q false is lt = refl

member_found : (e : Names × Node) (es : List (Names × Node)) → T (map.is_sorted names_cmp es) → Member e es → map.find names_cmp e.0 es ≡ Some e.1
member_found e [] s m = absurd m
member_found e (y ∷ es) s (inl same) = rw (sym same, same_self e.0) refl
member_found e (y ∷ es) s (inr m) =
    let parts = both_parts (below_all names_cmp y.0 es) (map.is_sorted names_cmp es) s in
    let apart : same_path e.0 y.0 ≡ false = apart_at y.0 e.0 (same_path e.0 y.0) refl (below_member y.0 e es parts.0 m) in
    rw apart (member_found e es parts.1 m)

same_names : (xs ys : Names) → pointwise (pointwise nat_eq) xs ys ≡ true → xs ≡ ys
same_names xs ys h = (slice_eq-Decides (λ a b. slice_eq-Decides Decides-eqb a b (pointwise nat_eq a b) refl) xs ys (pointwise (pointwise nat_eq) xs ys) refl).0 h

pub child_path : (p q : Names) → is_child p q ≡ true → q ≡ p ++ get_or q (length p) [] ∷ []
child_path p q h =
    let parts = and_parts _ _ h in
    let size : length q ≡ length p + 1 = eqb-true (length q) (length p + 1) parts.0 in
    let front : take (length p) q ≡ p = same_names (take (length p) q) p parts.1 in
    let last : drop (length p) q ≡ get_or q (length p) [] ∷ [] = drop_more q (length p) [] (omega (arith, size)) ∙ ap (λ (l : Names). get_or q (length p) [] ∷ l) (drop_all (length p + 1) q (omega (arith, size))) in
    sym (take-append-drop (length p) q) ∙ ap₂ (λ (a b : Names). a ++ b) front last

-- the node of a name in a listing
pub record Stands (t : Tree) (p : Names) (n : Name) : Type 0 where
  pub node : Node
  pub stands : look t (p ++ n.name ∷ []) ≡ Some node
  pub kind : n.kind ≡ kind_of node

stands_at : (t : Tree) (p : Names) (n : Name) (e : Names × Node) (b : Bool) → is_child p e.0 ≡ b → look t e.0 ≡ Some e.1 → cond b (Some (record { name = slice_index_or e.0 (length p) []; kind = kind_of e.1 })) None ≡ Some n → Stands t p n
stands_at t p n e false is there h = absurd cc
stands_at t p n e true is there h =
    let same : record { name = slice_index_or e.0 (length p) []; kind = kind_of e.1 } ≡ n = cc in
    record {
      node = e.1;
      stands = ap (λ (x : Name). look t (p ++ x.name ∷ [])) (sym same) ∙ ap (look t) (sym (child_path p e.0 is)) ∙ there;
      kind = ap (λ (x : Name). x.kind) (sym same);
    }

pub listed_child : (t : Tree) (p : Names) (n : Name) → Member n (listing t p) → Stands t p n
unfolding listing
listed_child t p n m =
    let s = source (child_of p) n (map.entries t) m in
    stands_at t p n s.of (is_child p s.of.0) refl (map.get-entries t s.of.0 ∙ member_found s.of (map.entries t) (map.entries_sorted t) s.member) s.gives

-- ---- below what is no folder there is nothing

abbrev pub NoFolder : Tree → Names → Type 0
NoFolder t p = look t p ≡ Some Folder → ⊥

none_in : (upper child : Option Node) → IfSome child (λ node. upper ≡ Some Folder) → (upper ≡ Some Folder → ⊥) → child ≡ None
none_in upper None h apart = refl
none_in upper (Some node) h apart = absurd (apart h)

pub none_below : (t : Tree) (p : Names) (x : List ℕ) (xs : Names) → Rooted t → NoFolder t p → look t (p ++ x ∷ xs) ≡ None
none_below t p x [] rooted apart = none_in (look t p) (look t (p ++ x ∷ [])) (rooted.folders p x) apart
none_below t p x (y ∷ ys) rooted apart =
    let none : look t (p ++ x ∷ []) ≡ None = none_in (look t p) (look t (p ++ x ∷ [])) (rooted.folders p x) apart in
    ap (look t) (sym (append_assoc p (x ∷ []) (y ∷ ys))) ∙ none_below t (p ++ x ∷ []) y ys rooted (λ is. let e : None ≡ Some Folder = sym none ∙ is in cc)

last_proper : (p : Names) (name : List ℕ) → AreProper (p ++ name ∷ []) → IsProperName name
last_proper [] name h = h.0
last_proper (n ∷ p) name h = last_proper p name h.1

proper_at : (here : Option Node) (node : Node) (P : Type 0) → here ≡ Some node → IfSome here (λ n. P) → P
proper_at None node P e h = absurd cc
proper_at (Some n) node P e h = h

pub proper_child : (t : Tree) (p : Names) (name : List ℕ) (node : Node) → Rooted t → look t (p ++ name ∷ []) ≡ Some node → IsProperName name
proper_child t p name node rooted stands = last_proper p name (proper_at (look t (p ++ name ∷ [])) node (AreProper (p ++ name ∷ [])) stands (rooted.proper (p ++ name ∷ [])))

-- ---- what an answer shows of a folder

-- the names that are in it, or none if it isn't there
pub data FolderShows (t : Tree) (p : Names) (names : List Name) : Type 0 where
  listed : names ≡ listing t p → FolderShows t p names
  missing : NoFolder t p → names ≡ [] → FolderShows t p names

-- a name that it shows stands there
pub shown_stands : (t : Tree) (p : Names) (ns : List Name) → FolderShows t p ns → (n : Name) → Member n ns → Stands t p n
shown_stands t p ns (listed all) n m = listed_child t p n (subst (Member n) all m)
shown_stands t p ns (missing apart none) n m = absurd (subst (Member n) none m)

abbrev Shows : Tree → Names → PlainAnswer → Type 0
Shows t p a = (names : List Name) → names_shown a ≡ Some names → FolderShows t p names

made_up_shows : (t : Tree) (p : Names) (fault : Fault) → Shows t p (Failed (made_up fault))
made_up_shows t p NotFound names e = absurd cc
made_up_shows t p other names e = absurd cc

folder_at : (here : Option Node) (old new : Names) → where_folder here old ≡ Ok new → old ≡ new
folder_at (Some Folder) old new e = cc
folder_at here old new e = absurd cc

folder_node : (here : Option Node) (old new : Names) → where_folder here old ≡ Ok new → here ≡ Some Folder
folder_node (Some Folder) old new e = refl
folder_node here old new e = absurd cc

pub folder_found : (t : Tree) (path : List ℕ) (names : Names) → folder t path ≡ Ok names → (names_of path ≡ Ok names) × (look t names ≡ Some Folder)
unfolding folder
folder_found t path names e =
    let f = and_then_ok (place t path) (λ n. where_folder (look t n) n) names e in
    let same = folder_at (look t f.0) f.0 names f.2 in
    (place_ok t path f.0 f.1 ∙ ap Ok same, ap (look t) (sym same) ∙ folder_node (look t f.0) f.0 names f.2)

pub folder_there : (t : Tree) (path : List ℕ) (names : Names) → Rooted t → names_of path ≡ Ok names → look t names ≡ Some Folder → folder t path ≡ Ok names
unfolding folder place
folder_there t path names rooted is there = rw (is, way_clear t [] names Folder rooted there, there) refl

shown_by : (t : Tree) (path : List ℕ) (p : Names) (r : Result Names Fault) → Rooted t → names_of path ≡ Ok p → folder t path ≡ r → Shows t p (unless r t (λ names. (Listed (listing t names), t))).0
shown_by t path p (Ok n) rooted is found names e =
    let same : n ≡ p = (let both : Ok n ≡ Ok p = sym (folder_ok t path n found) ∙ is in cc) in
    let all : listing t n ≡ names = cc in
    listed (sym all ∙ ap (listing t) same)
shown_by t path p (Err NotFound) rooted is found names e = missing (λ there. let both : Err NotFound ≡ Ok p = sym found ∙ folder_there t path p rooted is there in cc) (let none : [] ≡ names = cc in sym none)
shown_by t path p (Err other) rooted is found names e = absurd cc

pub folder_shown : (t : Tree) (path : List ℕ) (p : Names) (luck : Luck) (names : List Name) → Rooted t → names_of path ≡ Ok p → names_shown (apply t (ReadDir path) luck).0 ≡ Some names → FolderShows t p names
folder_shown t path p luck names rooted is e = apply_answer (Shows t p) (made_up_shows t p) t (ReadDir path) luck (λ most. shown_by t path p (folder t path) rooted is refl) names e

-- only children are listed
child_kept : (p : Names) (e : Names × Node) (b : Bool) (kept : List (Names × Node)) (names : List Name) → is_child p e.0 ≡ b → filter_map (child_of p) kept ≡ names → filter_map (child_of p) (cond b (e ∷ kept) kept) ≡ cons_option (child_of p e) names
child_kept p e true kept names is same = ap (cons_option (child_of p e)) same
child_kept p e false kept names is same = rw is same

pub of_children : (p : Names) (es : List (Names × Node)) → filter_map (child_of p) (where_key names_cmp (is_child p) es) ≡ filter_map (child_of p) es
of_children p [] = refl
of_children p (e ∷ es) = child_kept p e (is_child p e.0) (where_key names_cmp (is_child p) es) (filter_map (child_of p) es) refl (of_children p es)

pub where_child : (b : Bool) (x y : Option Node) → (b ≡ true → x ≡ y) → cond b x None ≡ cond b y None
where_child true x y same = same refl
where_child false x y same = refl

pub same_listing : (t new : Tree) (p : Names) → ((q : Names) → is_child p q ≡ true → look t q ≡ look new q) → listing t p ≡ listing new p
unfolding listing
same_listing t new p same =
    let alike = λ (q x : Names) (tie : names_cmp q x ≡ Equal). ap (is_child p) (sym (only q x tie)) in
    let found = λ (q : Names).
    find-where_key names_cmp (is_child p) q (alike q) (map.entries t)
    ∙ where_child (is_child p q) (map.find names_cmp q (map.entries t)) (map.find names_cmp q (map.entries new)) (λ is. sym (map.get-entries t q) ∙ same q is ∙ map.get-entries new q)
    ∙ sym (find-where_key names_cmp (is_child p) q (alike q) (map.entries new)) in
    let kept = same_entries names_cmp total only (where_key names_cmp (is_child p) (map.entries t)) (where_key names_cmp (is_child p) (map.entries new))
    (is_sorted-where_key names_cmp (is_child p) (map.entries t) (map.entries_sorted t)) (is_sorted-where_key names_cmp (is_child p) (map.entries new) (map.entries_sorted new)) found in
    sym (of_children p (map.entries t)) ∙ ap (filter_map (child_of p)) kept ∙ of_children p (map.entries new)
