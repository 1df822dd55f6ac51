-- What parts of a log do to the tree that they find.
use Rattle.std.proofs.Common.{◌≡◌, inl, inr, List, [], ◌∷◌, ◌++◌, Option, Some, refl, sym, subst}
use Rattle.cacache_core.specs.declared.errors.{Error.{Error, TheVariants.{IoError, OutOfMemory}}, Fault.{Fault}}
use Rattle.cacache_store.specs.declared.store.answer.Answer.TheVariants as answers
use Rattle.cacache_store.specs.{declared.store.log.LogItem.{LogItem}, Plain.{PlainStep, PlainAnswer}}
use Rattle.cacache_disk.specs.{declared.luck.Luck.TheVariants.{Plain}, Tree.{Tree, Rooted}, Apply.{apply}, Replay.{tree_of, IsLog}}
use Rattle.cacache_calls.specs.{Runs.{Gains, Moves}, SingleSteps.{Does, FailsAt}}
use Rattle.cacache_laws.specs.Sequence.{tree_on, AreAnswered}
use Rattle.cacache_laws.proofs.{Calls.InParts.{logs_lead}, trees.{Logged.{answered_split, gains_join, log_rooted, tree_split}, HiddenKeys.{moves_rooted}}}
use Rattle.cacache_keep.proofs.Stopped.{gains_none}

-- moves that a log gained; if a tree answers them, this is so of it and of the tree after them
pub record Leads (P : Tree → Tree → Type 0) (old new : Option (List LogItem)) : Type 0 where
  pub moves : Moves
  pub gains : Gains old new moves
  pub tells : (t : Tree) → Rooted t → AreAnswered t moves → P t (tree_on t moves)

pub leads_none : (old new : Option (List LogItem)) → new ≡ old → Leads (λ t u. u ≡ t) old new
leads_none old new e = record { moves = []; gains = gains_none old new e; tells = λ t rooted a. refl }

pub leads_step : (P : Tree → Tree → Type 0) (step : PlainStep) (answer : PlainAnswer) (old new : Option (List LogItem)) → Does step answer old new
    → ((t : Tree) → Rooted t → answer ≡ (apply t step Plain).0 → P t (apply t step Plain).1) → Leads P old new
leads_step P step answer old new does so = record { moves = (step, answer) ∷ []; gains = does; tells = λ t rooted a. so t rooted a.0 }

pub leads_then : (P Q R : Tree → Tree → Type 0) (old mid new : Option (List LogItem)) → Leads P old mid → Leads Q mid new
    → ((t u v : Tree) → Rooted t → Rooted u → P t u → Q u v → R t v) → Leads R old new
leads_then P Q R old mid new one two so = record {
  moves = one.moves ++ two.moves;
  gains = gains_join old mid new one.moves two.moves one.gains two.gains;
  tells = λ t rooted a.
      let parts = answered_split t one.moves two.moves a in
      let next = moves_rooted one.moves t rooted in
      subst (λ v. R t v) (sym (tree_split t one.moves two.moves))
      (so t (tree_on t one.moves) (tree_on (tree_on t one.moves) two.moves) rooted next (one.tells t rooted parts.0) (two.tells (tree_on t one.moves) next parts.1));
}

pub leads_as : (P Q : Tree → Tree → Type 0) (old new : Option (List LogItem)) → Leads P old new → ((t u : Tree) → Rooted t → P t u → Q t u) → Leads Q old new
leads_as P Q old new one so = record { moves = one.moves; gains = one.gains; tells = λ t rooted a. so t (tree_on t one.moves) rooted (one.tells t rooted a) }

-- a step that failed, if that is so whichever fault it was, and if no step was made
pub leads_failed : (P : Tree → Tree → Type 0) (step : PlainStep) (e : Error) (old new : Option (List LogItem)) → FailsAt step e old new
    → ((t : Tree) → P t t) → ((t : Tree) (fault : Fault) → Rooted t → answers.Failed fault ≡ (apply t step Plain).0 → P t (apply t step Plain).1) → Leads P old new
leads_failed P step (IoError fault message) old new fails none so = leads_step P step (answers.Failed fault) old new fails (λ t rooted e. so t fault rooted e)
leads_failed P step OutOfMemory old new (inl same) none so = leads_as (λ t u. u ≡ t) P old new (leads_none old new same) (λ t u rooted e. subst (λ v. P t v) (sym e) (none t))
leads_failed P step OutOfMemory old new (inr (fault, does)) none so = leads_step P step (answers.Failed fault) old new does (λ t rooted e. so t fault rooted e)
leads_failed P step e old new fails none so = absurd fails

-- on the log of a store in memory
pub leads_on : (P : Tree → Tree → Type 0) (old new : List LogItem) → IsLog new → Leads P (Some old) (Some new) → P (tree_of old) (tree_of new)
leads_on P old new logged l =
    let lead = logs_lead old new l.moves l.gains logged in
    subst (λ u. P (tree_of old) u) (sym lead.1) (l.tells (tree_of old) (log_rooted old) lead.0)
