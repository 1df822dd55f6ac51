-- Where steps change something, and what they leave fixed at a path at which nothing changed.
use Rattle.std.proofs.{lemmas.{Grind.{common_steps}, Bool.{or_parts}}, Common.{arith, ◌≡◌, ℕ, true, false, List, [], None, Ok, Err, sym, ap, ◌∙◌, rules, Option, refl}}
use Rattle.std.specs.{Prelude.{Result, ◌||◌, IfOk}, Result.{result_ok}}
use Rattle.cacache_core.specs.{declared.errors.Fault.{Fault}, Paths.{Names, names_of}}
use Rattle.cacache_store.specs.{declared.store.{plain.PlainTemp.{PlainTemp}, step.Step.TheVariants.{Write, Copy, CreateTemp, Persist, Append}}, Plain.{PlainStep, PlainAnswer}}
use Rattle.cacache_disk.specs.{declared.{luck.Luck.{Luck}, node.Node.{Node}}, Apply.{apply}, LedTo.{writable}, Tree.{Tree, look, same_path}}
use Rattle.cacache_disk.proofs.{Changes.{Makes, Puts, TreeChange, at_cut, at_put, at_rest, step_at}, FoundNodes.{dirs_ok, free_ok, replaceable_ok}, Roots.{same_self}, Maps.{same_path-true}}
use Rattle.cacache_value.{proofs.Temps.{Takes, takes}, specs.Kinds.{PathKind, path_kind}}
use Rattle.cacache_loss.specs.{Fixing.{is_at, moved_to, moves_file, rewrites_at, writes_at, Fixed, Fixing, between, file_after, moved_fixing, name_after, same_node, same_thing}, Reached.{fronts, fronts_of, is_among, listed, reached}, Loss.{stays}, Moments.{is_calm}}
use Rattle.cacache_loss.proofs.PathMaps.{or_false}
pub use Rattle.cacache_value.proofs.PathKinds.{bytes_same}

-- a path that isn't the one that was found
apart_one : (q : Names) (r : Result Names Fault) → is_among q (listed (result_ok r) None) ≡ false → (names : Names) → r ≡ Ok names → same_path q names ≡ false
apart_one q r apart names is = grind (arith, common_steps)

apart_first : (q : Names) (r s : Result Names Fault) → is_among q (listed (result_ok r) (result_ok s)) ≡ false → (names : Names) → r ≡ Ok names → same_path q names ≡ false
apart_first q r s apart names is = grind (arith, common_steps)

apart_second : (q : Names) (r s : Result Names Fault) → is_among q (listed (result_ok r) (result_ok s)) ≡ false → (names : Names) → s ≡ Ok names → same_path q names ≡ false
apart_second q (Ok n) (Ok m) apart names is =
    let same : m ≡ names = cc in
    ap (same_path q) (sym same) ∙ (or_parts (same_path q m) false (or_parts (same_path q n) (same_path q m || false) apart).1).0
apart_second q (Err f) (Ok m) apart names is = let same : m ≡ names = cc in ap (same_path q) (sym same) ∙ (or_parts (same_path q m) false apart).0
apart_second q r (Err fault) apart names is = absurd cc

fronts_apart : (q : Names) (r : Result Names Fault) → is_among q (fronts_of (result_ok r)) ≡ false → (names : Names) → r ≡ Ok names → is_among q (fronts [] names) ≡ false
fronts_apart q r apart names is = grind (arith, common_steps)

-- ---- steps

module _ (t : Tree) (q : Names) where
  differs : (names : Names) → q ≡ names → same_path q names ≡ false → ⊥
  differs names is apart = let no : true ≡ false = sym (same_self q) ∙ ap (same_path q) is ∙ apart in absurd cc

  -- a step puts nothing at a path that it doesn't reach
  not_put : (step : PlainStep) (c : TreeChange) (node : Node) → is_among q (reached t step) ≡ false → Makes t step c → Puts t c q node → ⊥
  not_put step c node apart m put = grind (arith, fronts_apart, dirs_ok, differs, apart_one, free_ok, apart_second, replaceable_ok)

  not_taken : (step : PlainStep) → is_among q (reached t step) ≡ false → Takes q step → ⊥
  not_taken step apart is = grind (arith, differs, apart_first, apart_one)

  -- the node at a path that a step doesn't reach stays
  pub apply_misses : (step : PlainStep) (luck : Luck) → is_among q (reached t step) ≡ false → look (apply t step luck).1 q ≡ look t q
  apply_misses step luck apart =
      let at = step_at t step luck q in
      elim at.2 [
        | at_rest e ↦ e
        | at_put node put e ↦ absurd (not_put step at.0 node apart at.1 put)
        | at_cut cut e ↦ absurd (not_taken step apart (takes t step at.0 q at.1 cut))
      ]

-- ---- what a step does at the paths that it reaches

among_found : (q : Names) (r : Result Names Fault) → is_among q (listed (result_ok r) None) ≡ is_at r q
among_found q r = grind (arith, or_false)

-- a temporary file is written at exactly the paths that its step reaches
pub writes_reached : (t : Tree) (f : PlainTemp) (bytes : List ℕ) (q : Names) → writes_at (Write f bytes) q ≡ is_among q (reached t (Write f bytes))
writes_reached t f bytes q = sym (among_found q (names_of f.path))

-- so is a file that is copied to
pub rewrites_reached : (t : Tree) (p to : List ℕ) (q : Names) → rewrites_at t (Copy p to) q ≡ is_among q (reached t (Copy p to))
rewrites_reached t p to q = sym (among_found q (writable t to))

-- a file moves only to a path that its step reaches
pub moves_reached : (t : Tree) (step : PlainStep) (answer : PlainAnswer) (q : Names) → is_among q (reached t step) ≡ false → moved_to (moves_file step answer) q ≡ false
moves_reached t step answer q apart = grind (arith, common_steps)

-- ---- what a step leaves fixed at a path at which nothing changed

node_same : (here : Option Node) → same_node here here ≡ true
node_same here = grind (arith, bytes_same)

thing_same : (here : Option Node) → same_thing here here ≡ true
thing_same here = grind (arith, bytes_same)

pub not_moved : (m : Option (Names × Names)) (fixed : Fixed) (q : Names) (f : Fixing) → moved_to m q ≡ false → moved_fixing m fixed q f ≡ f
not_moved m fixed q f e = grind (arith, common_steps)

-- nothing is known anew if the node is the same, and the step doesn't reach the path
module _ (fixed : Fixed) (old new : Tree) (step : PlainStep) (answer : PlainAnswer) (q : Names) (here : Option Node) where
  pub file_kept : look old q ≡ here → look new q ≡ here → moved_to (moves_file step answer) q ≡ false → rewrites_at old step q ≡ false
      → writes_at step q ≡ false → file_after fixed old new step answer q ≡ fixed.files q
  file_kept is stays unmoved unre unwritten = search (rules, not_moved, node_same)

  pub name_kept : look old q ≡ here → look new q ≡ here → moved_to (moves_file step answer) q ≡ false
      → name_after fixed old new step answer q ≡ fixed.names q
  name_kept is stays unmoved = rw (is, stays, unmoved, thing_same here) refl

-- ---- which paths a step reaches

pub at_false : (home : Option Names) (k l : PathKind) (q : Names) (r : Result Names Fault) → IfOk r (λ n. path_kind home n ≡ k) → path_kind home q ≡ l → (l ≡ k → ⊥)
    → is_at r q ≡ false
at_false home k l q r is at apart = grind (arith, same_path-true)

pub rewrites_false : (old : Tree) (step : PlainStep) (q : Names) → is_calm step ≡ true → rewrites_at old step q ≡ false
rewrites_false old step q e = grind (arith, common_steps)

-- the temporary file of a step is another, and so are the paths to which it moves it or appends
abbrev pub Misses : Names → PlainStep → Type 0
Misses q (CreateTemp p) = is_at (names_of p) q ≡ false
Misses q (Write f bytes) = is_at (names_of f.path) q ≡ false
Misses q (Persist f p) = (is_at (names_of f.path) q ≡ false) × (is_at (names_of p) q ≡ false)
Misses q (Append p bytes) = is_at (names_of p) q ≡ false
Misses q step = Unit {0}

pub writes_false : (step : PlainStep) (q : Names) → Misses q step → writes_at step q ≡ false
writes_false step q misses = grind (arith, common_steps)

pub between_false : (from to : Result Names Fault) (q : Names) → is_at to q ≡ false → moved_to (between from to) q ≡ false
between_false from to q e = grind (arith, common_steps)

pub moved_false : (step : PlainStep) (answer : PlainAnswer) (q : Names) → Misses q step → moved_to (moves_file step answer) q ≡ false
moved_false step answer q e = grind (arith, between_false)

pub at_names : (p : List ℕ) (n q : Names) → is_at (names_of p) q ≡ false → names_of p ≡ Ok n → same_path q n ≡ false
at_names p n q e is = ap (λ r. is_at r q) (sym is) ∙ e
