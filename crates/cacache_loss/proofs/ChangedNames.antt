-- Finitely many names change, so a loss leaves a tree.
use Rattle.std.proofs.{lemmas.{Grind.{common_steps}, List.Folds.{list_any-append}, Bool.{or_parts}}, Common.{rules, arith, ◌≡◌, Bool, true, false, cond, List, [], ◌∷◌, ◌++◌, Option, None, Some, refl, sym, ap, ◌∙◌}}
use Rattle.std.specs.{Prelude.{◌||◌, is_some, unwrap_or}, List.{list_any}}
use Rattle.std.specs.FinMap as map
use Rattle.cacache_core.specs.Paths.{Names}
use Rattle.cacache_store.specs.Plain.{PlainStep, PlainAnswer}
use Rattle.cacache_disk.{specs.{declared.node.Node.{Node}, Tree.{Tree, look, names_cmp, put, same_path}}, proofs.{Maps.{total, only, same_path-true}, PutNodes.{look-put}}}
use Rattle.cacache_value.proofs.Shows.{trees_show}
use Rattle.cacache_loss.specs.{ChangedNames.{FewChanged, HistoriesLeaveCaches, LeavesOneTree, LossesLeaveOneTree, MovesChangeFew, OpeningsChangedNone, opening}, Fixing.{Fixed, Place, changed, fixed_after, moved_to, moves_file}, Loss.{Loss, Lost}, Moments.{Moment, after, lost_then, next}}
use Rattle.cacache_loss.proofs.{LossCases.{gone}, LostTrees.{losses_leave_trees, moves_keep_moments, openings_stand_well}, KeptPaths.{none_cond, cond_none}}

-- ---- paths that aren't among some

abbrev is_among : Names → List Names → Bool
is_among q paths = list_any (same_path q) paths

pub not_among : (q : Names) (paths more : List Names) → is_among q (paths ++ more) ≡ false → (is_among q paths ≡ false) × (is_among q more ≡ false)
not_among q paths more e = or_parts (is_among q paths) (is_among q more) (sym (list_any-append (same_path q) paths more) ∙ e)

nothing : (here : Option Node) → is_some here ≡ false → here ≡ None
nothing here e = grind (arith, common_steps)

-- there is something only at a tree's keys
pub not_there : (t : Tree) (q : Names) → is_among q (map.keys t) ≡ false → look t q ≡ None
not_there t q e = nothing (look t q) (sym (sym e ∙ sym (map.contains_key-keys t q)))

-- ---- names that change

pub openings_changed_none : OpeningsChangedNone
openings_changed_none t q apart = refl

abbrev moved_paths : Option (Names × Names) → List Names
moved_paths None = []
moved_paths (Some (from, to)) = to ∷ []

not_moved : (o : Option (Names × Names)) (q : Names) → is_among q (moved_paths o) ≡ false → moved_to o q ≡ false
not_moved o q e = grind (arith, common_steps)

changed_few : (fixed : Fixed) (old new : Tree) (step : PlainStep) (answer : PlainAnswer) → FewChanged fixed → FewChanged (changed fixed old new step answer)
changed_few fixed old new step answer few = record {
  paths = moved_paths (moves_file step answer) ++ (map.keys old ++ (map.keys new ++ few.paths));
  only = λ q apart.
      let moved = not_among q (moved_paths (moves_file step answer)) (map.keys old ++ (map.keys new ++ few.paths)) apart in
      let before = not_among q (map.keys old) (map.keys new ++ few.paths) moved.1 in
      let later = not_among q (map.keys new) few.paths before.1 in
      rw (not_moved (moves_file step answer) q moved.0, not_there old q before.0, not_there new q later.0, few.only q later.1) refl;
}

synced_few : (b : Bool) (later fixed : Fixed) → FewChanged later → FewChanged fixed → FewChanged (cond b later fixed)
synced_few b later fixed new old = grind (arith, common_steps)

-- a step changes few names
step_few : (fixed : Fixed) (old new : Tree) (step : PlainStep) (answer : PlainAnswer) → FewChanged fixed → FewChanged (fixed_after fixed old new step answer)
step_few fixed old new step answer few = grind (arith, synced_few, only, cond_none, changed_few)

pub moves_change_few : MovesChangeFew
moves_change_few w [] few = few
moves_change_few w (m ∷ moves) few = moves_change_few (next w m) moves (step_few w.fixed w.tree (next w m).tree m.step m.answer few)

-- ---- a tree of what is at these paths

abbrev with_node : Tree → Names → Option Node → Tree
with_node t p None = t
with_node t p (Some node) = put t p node

abbrev gathered : (Names → Option Node) → List Names → Tree
gathered here [] = map.empty
gathered here (p ∷ paths) = with_node (gathered here paths) p (here p)

here_twice : (here : Names → Option Node) (p q : Names) (there : Option Node) (a b : Bool) → here p ≡ there → same_path q p ≡ a
    → cond a there (cond b (here q) None) ≡ cond (a || b) (here q) None
here_twice here p q there a b is e = grind (arith, same_path-true)

look_with : (t : Tree) (p q : Names) (there : Option Node) (b : Bool) (old : Option Node) → same_path q p ≡ b → look t q ≡ old
    → (b ≡ true → there ≡ None → old ≡ None) → look (with_node t p there) q ≡ cond b there old
look_with t p q there b old e is free = grind (arith, look-put)

look_gathered : (here : Names → Option Node) (q : Names) (paths : List Names) → look (gathered here paths) q ≡ cond (is_among q paths) (here q) None
look_gathered here q [] = map.get-empty names_cmp q
look_gathered here q (p ∷ paths) =
    look_with (gathered here paths) p q (here p) (same_path q p) (cond (is_among q paths) (here q) None) refl (look_gathered here q paths)
    (λ is none. none_cond (is_among q paths) (here q) (ap here (same_path-true q p is) ∙ none))
    ∙ here_twice here p q (here p) (same_path q p) (is_among q paths) refl refl

-- ---- the tree that a loss leaves

left_none : (b : Bool) (before : Option Place) (now : Place) → before ≡ None → now.node ≡ None → (cond b (unwrap_or before now) now).node ≡ None
left_none b before now same free = grind (arith, common_steps)

-- a loss leaves nothing where nothing is and nothing was
pub none_left_at : (home : Option Names) (w : Moment) (loss : Loss) (q : Names) → look w.tree q ≡ None → w.fixed.names q ≡ None → lost_then home w loss q ≡ None
none_left_at home w loss q free same = search (rules, gone, left_none)

left_there : (home : Option Names) (w : Moment) (loss : Loss) (few : FewChanged w.fixed) (q : Names) (b : Bool) → is_among q (few.paths ++ map.keys w.tree) ≡ b
    → cond b (lost_then home w loss q) None ≡ lost_then home w loss q
left_there home w loss few q true is = refl
left_there home w loss few q false is =
    let apart = not_among q few.paths (map.keys w.tree) is in
    sym (none_left_at home w loss q (not_there w.tree q apart.1) (few.only q apart.0))

abbrev tree_left : (home : Option Names) (w : Moment) (loss : Loss) → FewChanged w.fixed → Tree
tree_left home w loss few = gathered (lost_then home w loss) (few.paths ++ map.keys w.tree)

is_left : (home : Option Names) (w : Moment) (loss : Loss) (few : FewChanged w.fixed) → Lost home w.tree w.fixed loss (tree_left home w loss few)
is_left home w loss few q = look_gathered (lost_then home w loss) q (few.paths ++ map.keys w.tree) ∙ left_there home w loss few q _ refl

pub losses_leave_one_tree : LossesLeaveOneTree
losses_leave_one_tree home w loss few = record {
  tree = tree_left home w loss few;
  left = is_left home w loss few;
  only = λ other lost. map.same_map total only other (tree_left home w loss few) (λ q. lost q ∙ sym (is_left home w loss few q));
}

pub histories_leave_caches : HistoriesLeaveCaches
histories_leave_caches home t moves loss placed rooted trace =
    let now : Moment = after (opening t) moves in
    let kept = moves_keep_moments home (opening t) moves (placed, rooted) (openings_stand_well home t) trace in
    let one : LeavesOneTree home now loss
    = losses_leave_one_tree home now loss (moves_change_few (opening t) moves (record { paths = []; only = openings_changed_none t })) in
    let of_cache = losses_leave_trees home now loss one.tree kept.0 kept.1 one.left in
    record { one = one; placed = of_cache.0; rooted = of_cache.1; shows = trees_show home one.tree of_cache.0 of_cache.1 }
