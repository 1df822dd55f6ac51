-- The run of a call whose steps all succeed, step by step.
use Rattle.std.proofs.Common.{◌≡◌, ℕ, List, [], ◌∷◌, Some, refl, sym, ap, subst}
use Rattle.cacache_store.specs.{declared.store.log.LogItem.{LogItem}, Plain.{PlainStep, PlainAnswer, Fits}}
use Rattle.cacache_store.specs.declared.store.step.Step.TheVariants as steps
use Rattle.cacache_store.specs.declared.store.answer.Answer.TheVariants as answers
use Rattle.cacache_disk.specs.{declared.luck.Luck.TheVariants.{Plain}, Tree.{Tree}, Apply.{apply}, Replay.{tree_of, IsLog}}
use Rattle.cacache_calls.specs.{declared.reply.Reply.{Reply}, Common.{sync_up}, Replies.{OrMemory}, Runs.{Moves, Goes, Ran}, State.{State, doing, over, sync_dir}, Table.{wants, after}}
use Rattle.cacache_laws.{specs.Sequence.{tree_on, AreAnswered}, proofs.Sure.SureRuns.{EndsSo, SyncsAll}}
use Rattle.cacache_laws.proofs.Sure.SureRuns as runs

-- there are moves that take the call from this state to its reply, each answered as this tree answers in its turn
abbrev pub Plays : (Tree → Reply → Type 0) → Tree → State → Type 0
Plays Q t s = (moves : Moves) × (r : Reply) × Goes s moves (over r) × AreAnswered t moves × Q (tree_on t moves) r

module _ (Q : Tree → Reply → Type 0) where
  pub ends : (t : Tree) (r : Reply) → Q t r → Plays Q t (over r)
  ends t r q = ([], r, refl, tt, q)

  -- a step with this answer and tree, and then the run from the state after it
  pub goes : (t new : Tree) (s : State) (step : PlainStep) (a : PlainAnswer) → wants s ≡ Some step → apply t step Plain ≡ (a, new) → Fits step a → Plays Q new (after s a) → Plays Q t s
  goes t new s step a want is fits p =
      let tree : new ≡ (apply t step Plain).1 = sym (ap (λ (x : PlainAnswer × Tree). x.1) is) in (
        (step, a) ∷ p.0,
        p.1,
        (want, fits, p.2),
        (sym (ap (λ (x : PlainAnswer × Tree). x.0) is), subst (λ x. AreAnswered x p.0) tree p.3),
        subst (λ x. Q (tree_on x p.0) p.1) tree p.4,
      )

  -- folders that are synced, and then what follows
  pub syncs : (t : Tree) (s : State) (folders : List (List ℕ)) → SyncsAll t folders → Plays Q t s → Plays Q t (sync_up folders s)
  syncs t s [] all p = p
  syncs t s (folder ∷ deeper) all p =
      syncs t (doing (sync_dir folder) s) deeper all.1 (goes t t (doing (sync_dir folder) s) (steps.SyncDir folder) answers.Done refl all.0 tt p)

  by_moves : (t : Tree) (s : State) (moves : Moves) (r : Reply) → Goes s moves (over r) → AreAnswered t moves → Q (tree_on t moves) r → EndsSo Q t s
  by_moves t s [] r is answered q = subst (EndsSo Q t) (sym is) (runs.ends Q t r q)
  by_moves t s (m ∷ moves) r run answered q =
      runs.goes Q t (apply t m.0 Plain).1 s m.0 m.1 run.0 (ap (λ (a : PlainAnswer). (a, (apply t m.0 Plain).1)) (sym answered.0))
      (by_moves (apply t m.0 Plain).1 (after s m.1) moves r run.2 answered.1 q)

  -- a tree answers each step in one way, so every run of the call ends as this one
  pub ends_so : (t : Tree) (s : State) → Plays Q t s → EndsSo Q t s
  ends_so t s p = by_moves t s p.0 p.1 p.2 p.3 p.4

  -- so does a run that the log of a store in memory gained
  pub of_plays : (s : State) (r : Reply) (old new : List LogItem) → Plays Q (tree_of old) s → Ran s r (Some old) (Some new) → IsLog new → OrMemory (Q (tree_of new) r) r
  of_plays s r old new p ran logged = runs.of_log Q s r old new (ends_so (tree_of old) s p) ran logged

-- what plays so plays so too
pub ends_too : (Q P : Tree → Reply → Type 0) → ((t : Tree) (r : Reply) → Q t r → P t r) → (t : Tree) (s : State) → Plays Q t s → Plays P t s
ends_too Q P leads t s p = (p.0, p.1, p.2, p.3, leads (tree_on t p.0) p.1 p.4)
