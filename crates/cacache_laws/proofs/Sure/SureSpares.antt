-- If no temporary file is there, no other step of a call makes one.
use Rattle.std.{proofs.Common.{rules, ◌≡◌, ℕ, List, [], ◌∷◌, Option, None, sym, ap, ◌∙◌}, specs.List.{AllByRecursion}}
use Rattle.cacache_core.{specs.Paths.{Names}, proofs.ProperNames.{not_true}}
use Rattle.cacache_store.specs.declared.store.step.Step.TheVariants as steps
use Rattle.cacache_store.specs.Plain.{PlainStep, PlainAnswer}
use Rattle.cacache_disk.specs.{declared.{luck.Luck.TheVariants.{Plain}, node.Node.{Node}}, Tree.{Tree, look, put}, Apply.{apply}}
use Rattle.cacache_disk.proofs.{Maps.{same_path-true}, PutNodes.{look-put}}
use Rattle.cacache_value.specs.{Kinds.{PathKind, Temporary, Way, path_kind, IsFor}, Placed.{Placed, Proper}, Acts.{IsTrace}}
use Rattle.cacache_value.proofs.{Temps.{as_was, came, temp_at, went}, Traces.{steps_keep_placed}}
pub use Rattle.cacache_value.proofs.Temps.{Creates}
use Rattle.cacache_calls.specs.Runs.{Moves}
use Rattle.cacache_laws.specs.Sequence.{tree_on, plain_moves}

-- ---- nodes

-- a node elsewhere isn't seen
pub put_apart : (t : Tree) (p q : Names) (node : Node) → (q ≡ p → ⊥) → look t q ≡ None → look (put t p node) q ≡ None
put_apart t p q node apart e = search (rules, look-put, not_true, same_path-true)

-- ---- steps

-- none of the moves does
abbrev pub NoneCreates : Names → Moves → Type 0
NoneCreates q = AllByRecursion (λ (m : PlainStep × PlainAnswer). Creates q m.0 → ⊥)

module _ (home : Option Names) (q : Names) (temporary : path_kind home q ≡ Temporary) where
  -- a path for something else is another path
  elsewhere : (k : PathKind) (p : Names) → path_kind home p ≡ k → (k ≡ Temporary → ⊥) → q ≡ p → ⊥
  elsewhere k p is differ same = differ (sym is ∙ ap (path_kind home) (sym same) ∙ temporary)

  pub put_other : (t : Tree) (k : PathKind) (p : Names) (node : Node) → path_kind home p ≡ k → (k ≡ Temporary → ⊥) → look t q ≡ None → look (put t p node) q ≡ None
  put_other t k p node is differ e = put_apart t p q node (elsewhere k p is differ) e

  pub step_spares : (t : Tree) (step : PlainStep) → Placed home t → Proper home step → (Creates q step → ⊥) → look t q ≡ None → look (apply t step Plain).1 q ≡ None
  step_spares t step placed proper never e = search (rules, temp_at, as_was, came, went)

  pub dirs_spare : (t : Tree) (p : List ℕ) → Placed home t → IsFor home Way p → look t q ≡ None → look (apply t (steps.MakeDirs p) Plain).1 q ≡ None
  dirs_spare t p placed way e = step_spares t (steps.MakeDirs p) placed way (λ never. never) e

  pub moves_spare : (t : Tree) (moves : Moves) → Placed home t → IsTrace home t (plain_moves moves) → NoneCreates q moves → look t q ≡ None → look (tree_on t moves) q ≡ None
  moves_spare t [] placed trace never e = e
  moves_spare t (m ∷ moves) placed trace never e =
      moves_spare (apply t m.0 Plain).1 moves (steps_keep_placed home t m.0 Plain placed trace.0) trace.2 never.1 (step_spares t m.0 placed trace.0 never.0 e)
