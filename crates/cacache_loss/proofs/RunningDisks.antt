-- What the code keeps after a step is what is fixed after it.
use Rattle.std.proofs.{lemmas.Grind.{common_steps}, Common.{rules, arith, ◌≡◌, Bool, true, false, cond, List, Option, refl, ap, ap₂, ◌∙◌}}
use Rattle.std.specs.{Prelude.{is_some, map, unwrap_or, OnOk, Result, Ok, Err}, BTreeMap.{BTreeMap, get}}
use Rattle.cacache_core.specs.Paths.{Names}
use Rattle.cacache_store.specs.Plain.{PlainStep, PlainAnswer}
use Rattle.cacache_disk.specs.{declared.luck.Luck.{Luck}, Apply.{apply}, Tree.{Tree, look, names_cmp}}
use Rattle.cacache_loss.specs.{declared.effect.Effect.{Effect}, Fixing.{Fixed, Fixing, Place, changed, file_after, fixed_after, is_sync, is_synced, moved_fixing, moved_to, moves_file, name_after, place_now, renamed, rewrites_at, writes_at}, Moments.{Moment, next}, Reached.{is_among, reached}, Running.{FilesSettle, NamesSettle, arrival, arrived, effect_of, files_in, fixed_in, fixing_by, move_of, renames}}
use Rattle.cacache_loss.proofs.Reaching.{apply_misses, moves_reached, rewrites_reached, writes_reached, file_kept, name_kept}

-- ---- a file that moved

-- what a move brings to a path is what the path has afterwards
arrives : (m : Option (Names × Names)) (fixed : Fixed) (q : Names) (f : Fixing) → unwrap_or (arrived (arrival fixed.files m) q) f ≡ moved_fixing m fixed q f
arrives m fixed q f = grind (arith, common_steps)

arrives_at : (m : Option (Names × Names)) (fixed : Fixed) (q : Names) → is_some (arrived (arrival fixed.files m) q) ≡ moved_to m q
arrives_at m fixed q = grind (arith, common_steps)

-- ---- at a path that the step reaches

module _ (fixed : Fixed) (old new : Tree) (answer : PlainAnswer) (q : Names) where
  fixing_is : (step : PlainStep) → is_among q (reached old step) ≡ true
      → fixing_by (effect_of fixed.files step answer) (place_now old fixed q) (look new q) q ≡ file_after fixed old new step answer q
  fixing_is step e = grind (arith, writes_reached, rewrites_reached, arrives)

  moved_is : (step : PlainStep) → is_some (arrived (effect_of fixed.files step answer).moved q) ≡ moved_to (moves_file step answer) q
  moved_is step = grind (arith, arrives_at)

-- ---- at another path

unwritten : (t : Tree) (step : PlainStep) (q : Names) → is_among q (reached t step) ≡ false → writes_at step q ≡ false
unwritten t step q e = grind (arith, writes_reached)

not_rewritten : (t : Tree) (step : PlainStep) (q : Names) → is_among q (reached t step) ≡ false → rewrites_at t step q ≡ false
not_rewritten t step q e = grind (arith, rewrites_reached)

-- ---- at any path

module _ (fixed : Fixed) (old : Tree) (step : PlainStep) (luck : Luck) (answer : PlainAnswer) where
  abbrev later : Tree
  later = (apply old step luck).1

  abbrev effect : Effect
  effect = effect_of fixed.files step answer

  file_is : (q : Names) (b : Bool) → is_among q (reached old step) ≡ b
      → cond b (fixing_by effect (place_now old fixed q) (look later q) q) (fixed.files q) ≡ file_after fixed old later step answer q
  file_is q b e = grind (arith, fixing_is, file_kept, apply_misses, moves_reached, not_rewritten, unwritten)

  name_is : (q : Names) (b : Bool) → is_among q (reached old step) ≡ b
      → cond b (renamed (renames effect (place_now old fixed q) (look later q) q) (place_now old fixed q) (fixed.names q)) (fixed.names q)
      ≡ name_after fixed old later step answer q
  name_is q b e = grind (arith, moved_is, name_kept, apply_misses, moves_reached)

not_sync : (fixed : Fixed) (old new : Tree) (step : PlainStep) (answer : PlainAnswer) → is_sync step ≡ false → changed fixed old new step answer ≡ fixed_after fixed old new step answer
not_sync fixed old new step answer e = grind (arith, common_steps)

same_fixed : (a b : Fixed) → ((q : Names) → a.files q ≡ b.files q) → ((q : Names) → a.names q ≡ b.names q) → a ≡ b
same_fixed a b files names = λ i. record { files = λ q. files q i; names = λ q. names q i }

same_moment : (a b : Moment) → a.tree ≡ b.tree → a.fixed ≡ b.fixed → a ≡ b
same_moment a b tree fixed = λ i. record { tree = tree i; fixed = fixed i }

abbrev pub moment : Tree → Fixed → Moment
moment t fixed = record { tree = t; fixed = fixed }

-- ---- after a step that is no sync

module _ (first old new : Tree) (files files' : BTreeMap Names Fixing) (names names' : BTreeMap Names Place) (step : PlainStep) (luck : Luck) (answer : PlainAnswer) where
  abbrev was : Fixed
  was = fixed_in first files names

  changed_moment : (paths : List Names) (places : List Place) (e : Effect) → is_sync step ≡ false → paths ≡ reached old step → places ≡ map (place_now old was) paths
      → e ≡ effect_of (files_in first files) step answer → new ≡ (apply old step luck).1
      → FilesSettle e new paths places (files_in first files) (files_in first files') → NamesSettle e new paths places (get names_cmp names) (get names_cmp names')
      → moment new (fixed_in first files' names') ≡ next (moment old was) (move_of step luck answer)
  changed_moment paths places e no_sync paths_is places_is e_is new_is files_settle names_settle =
      same_moment (moment new (fixed_in first files' names')) (next (moment old was) (move_of step luck answer)) new_is
      (same_fixed (fixed_in first files' names') (changed was old (apply old step luck).1 step answer)
      (λ q. files_settle (place_now old was) places_is q
      ∙ ap (λ ps. cond (is_among q ps) (fixing_by e (place_now old was q) (look new q) q) (was.files q)) paths_is
      ∙ ap₂ (λ e t. cond (is_among q (reached old step)) (fixing_by e (place_now old was q) (look t q) q) (was.files q)) e_is new_is
      ∙ file_is was old step luck answer q (is_among q (reached old step)) refl)
      (λ q. names_settle (place_now old was) places_is q
      ∙ ap (λ ps. cond (is_among q ps) (renamed (renames e (place_now old was q) (look new q) q) (place_now old was q) (was.names q)) (was.names q)) paths_is
      ∙ ap₂ (λ e t. cond (is_among q (reached old step)) (renamed (renames e (place_now old was q) (look t q) q) (place_now old was q) (was.names q)) (was.names q)) e_is new_is
      ∙ name_is was old step luck answer q (is_among q (reached old step)) refl)
      ∙ not_sync was old (apply old step luck).1 step answer no_sync)

  pub changed_ok : {E : Type 0} (r : Result Unit E) (paths : List Names) (places : List Place) (e : Effect) → is_sync step ≡ false → paths ≡ reached old step
      → places ≡ map (place_now old was) paths → e ≡ effect_of (files_in first files) step answer → new ≡ (apply old step luck).1
      → OnOk r ((t : Tree) → FilesSettle e new paths places (files_in t files) (files_in t files')) → OnOk r (NamesSettle e new paths places (get names_cmp names) (get names_cmp names'))
      → OnOk r (moment new (fixed_in first files' names') ≡ next (moment old was) (move_of step luck answer))
  changed_ok (Ok u) paths places e no_sync paths_is places_is e_is new_is files_settle names_settle = search (rules, changed_moment)
  changed_ok (Err error) paths places e no_sync paths_is places_is e_is new_is files_settle names_settle = tt

-- ---- after a sync
