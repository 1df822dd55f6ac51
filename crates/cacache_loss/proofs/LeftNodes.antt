-- What the code leaves is what a loss leaves.
use Rattle.std.proofs.{lemmas.{Grind.{common_steps}, Bool.{and_right}}, Common.{rules, ◌≡◌, ◌<◌, ◌==◌, ◌+◌, ℕ, Bool, true, false, cond, List, [], ◌∷◌, ◌++◌, Option, None, Some, length, get_or, take, drop, refl, sym, ap, ◌∙◌, arith}}
use Rattle.std.specs.{Prelude.{◌&&◌, is_some, IfOk, Result}, Bool.{nat_eq}, BTreeMap.{get, keys}, Cmp.Lexicographic.{pointwise}, Result.{result_ok}}
use Rattle.std.specs.FinMap as map
use Rattle.cacache_core.specs.Paths.{Names, home_of, names_of, pieces}
use Rattle.cacache_disk.specs.{declared.node.Node.{Node}, Tree.{is_folder, Tree, look, names_cmp, put, same_path}}
use Rattle.cacache_disk.proofs.{Maps.{same_path-true}, PathTexts.{drop_here, front_next}, PutNodes.{look-put}}
use Rattle.cacache_loss.specs.{declared.left.Losing.{Losing}, Fixing.{Place}, Loss.{Lost, begins, lead_folders}, Running.{loss_of, lost_of, moment_of}, Reached.{is_among}}
use Rattle.cacache_loss.proofs.{ChangedNames.{none_left_at, not_among, not_there}, PathMaps.{keys_among, settled_more}, KeptPaths.{none_cond}}

-- ---- the cache's folder

pub home_empty : (cache : List ℕ) → (length cache == 0) ≡ true → Some [] ≡ home_of cache
unfolding home_of pieces
home_empty cache e = grind (arith, common_steps)

pub home_named : (path : List ℕ) → (length path == 0) ≡ false → home_of path ≡ result_ok (names_of path)
unfolding names_of home_of
home_named path e = search rules

pub begins_front : (path home : Names) → pointwise (pointwise nat_eq) path (take (length path) home) ≡ begins path home
begins_front [] home = refl
begins_front (name ∷ path) [] = refl
begins_front (name ∷ path) (first ∷ home) = ap (λ b. pointwise nat_eq name first && b) (begins_front path home)

pub begins_short : (path home : Names) → length home < length path → false ≡ begins path home
begins_short [] home short = absurd (omega (arith, short))
begins_short (name ∷ path) [] short = refl
begins_short (name ∷ path) (first ∷ home) short = sym (and_right (pointwise nat_eq name first) (begins path home) (sym (begins_short path home (omega (arith, short)))))

-- ---- the folders above a path

pub leads_next : (left : Names → Place) (path : Names) (i : ℕ) (above : Names) → i < length path → above ≡ take i path
    → lead_folders left (take i path) (drop i path) ≡ (is_folder (left above).node && lead_folders left (take (i + 1) path) (drop (i + 1) path))
leads_next left path i above below is =
    ap (lead_folders left (take i path)) (drop_here path i [] below) ∙ rw (front_next path i [] below, is) refl

-- ---- the nodes that are left

none_again : (lost : Names → Option Node) (p q : Names) (a b : Bool) → same_path q p ≡ b → lost p ≡ None → cond a (lost q) None ≡ cond b (lost p) (cond a (lost q) None)
none_again lost p q a b is none = grind (arith, none_cond, same_path-true)

pub left_none : (lost : Names → Option Node) (t : Tree) (paths : List Names) (i : ℕ) (p : Names) → i < length paths → p ≡ get_or paths i p → lost p ≡ None
    → ((q : Names) → look t q ≡ cond (is_among q (take i paths)) (lost q) None)
    → (q : Names) → look t q ≡ cond (is_among q (take (i + 1) paths)) (lost q) None
left_none lost t paths i p below is none so q =
    so q ∙ none_again lost p q (is_among q (take i paths)) (same_path q p) refl none ∙ settled_more lost (λ r. None) paths i p q below is

pub left_more : (lost : Names → Option Node) (t : Tree) (paths : List Names) (i : ℕ) (p : Names) (node : Node) → i < length paths → p ≡ get_or paths i p → lost p ≡ Some node
    → ((q : Names) → look t q ≡ cond (is_among q (take i paths)) (lost q) None)
    → (q : Names) → look (put t p node) q ≡ cond (is_among q (take (i + 1) paths)) (lost q) None
left_more lost t paths i p node below is there so q =
    look-put t p node q ∙ ap (λ here. cond (same_path q p) here (look t q)) (sym there)
    ∙ ap (cond (same_path q p) (lost p)) (so q) ∙ settled_more lost (λ r. None) paths i p q below is

-- nothing is left where nothing is and nothing was
pub left_all : (l : Losing) (t : Tree) (paths : List Names) → paths ≡ map.keys l.running.disk ++ keys l.running.names
    → ((q : Names) → look t q ≡ cond (is_among q paths) (lost_of l q) None)
    → Lost l.home (moment_of l.running).tree (moment_of l.running).fixed (loss_of l.taken) t
left_all l t paths is so q =
    so q ∙ ap (λ ps. cond (is_among q ps) (lost_of l q) None) is ∙ either (is_among q (map.keys l.running.disk ++ keys l.running.names)) refl
  where
    nothing : (o : Option Place) → false ≡ is_some o → o ≡ None
    nothing None e = refl
    nothing (Some place) e = absurd cc

    either : (b : Bool) → is_among q (map.keys l.running.disk ++ keys l.running.names) ≡ b → cond b (lost_of l q) None ≡ lost_of l q
    either true e = refl
    either false e =
        let apart = not_among q (map.keys l.running.disk) (keys l.running.names) e in
        sym (none_left_at l.home (moment_of l.running) (loss_of l.taken) q (not_there l.running.disk q apart.0)
        (nothing (get names_cmp l.running.names q) (sym apart.1 ∙ keys_among l.running.names q)))

pub left_ok : {E : Type 0} (l : Losing) (paths : List Names) (r : Result Tree E) → paths ≡ map.keys l.running.disk ++ keys l.running.names
    → IfOk r (λ t. (q : Names) → look t q ≡ cond (is_among q paths) (lost_of l q) None)
    → IfOk r (λ t. Lost l.home (moment_of l.running).tree (moment_of l.running).fixed (loss_of l.taken) t)
left_ok l paths r is so = grind (arith, left_all)
