-- Temporary files that are moved to a path.
use Rattle.std.proofs.Common.{◌≡◌, ℕ, List, Some, Result, Ok, refl}
use Rattle.cacache_core.specs.{declared.errors.Fault.{Fault}, Paths.{Names, names_of}}
use Rattle.cacache_store.specs.declared.store.answer.Answer.TheVariants as answers
use Rattle.cacache_store.specs.declared.store.plain.PlainTemp.{PlainTemp}
use Rattle.cacache_store.specs.declared.store.step.Step.TheVariants as steps
use Rattle.cacache_disk.specs.{declared.{luck.Luck.TheVariants.{Plain}, node.Node.TheVariants.{File}}, Tree.{Tree, cut, put}, LedTo.{kept, known, replaceable}, Apply.{apply, unless}}
use Rattle.cacache_disk.proofs.FoundNodes.{kept_ok, replaceable_ok}
use Rattle.cacache_value.proofs.Steps.{known_ok}

pub record MovedTo (full : PlainTemp) (path : List ℕ) (t new : Tree) : Type 0 where
  pub bytes : List ℕ
  pub has : full.bytes ≡ Some bytes
  pub old : Names
  pub from : names_of full.path ≡ Ok old
  pub to : Names
  pub at : names_of path ≡ Ok to
  pub leads : new ≡ put (cut t old) to (File bytes)

pub moved : (full : PlainTemp) (path : List ℕ) (t : Tree) → answers.Done ≡ (apply t (steps.Persist full path) Plain).0 → MovedTo full path t (apply t (steps.Persist full path) Plain).1
unfolding apply
moved full path t e = by (known full.bytes) (kept t full.path) (replaceable t path) (λ b k. known_ok full.bytes b k) (λ n k. (kept_ok t full.path n k).0) (λ n k. (replaceable_ok t path n k).0) e
  where
    by : (r : Result (List ℕ) Fault) (k : Result Names Fault) (p : Result Names Fault) → ((b : List ℕ) → r ≡ Ok b → full.bytes ≡ Some b)
        → ((n : Names) → k ≡ Ok n → names_of full.path ≡ Ok n) → ((n : Names) → p ≡ Ok n → names_of path ≡ Ok n)
        → answers.Done ≡ (unless r t (λ bytes. unless k t (λ old. unless p t (λ new. (answers.Done, put (cut t old) new (File bytes)))))).0
        → MovedTo full path t (unless r t (λ bytes. unless k t (λ old. unless p t (λ new. (answers.Done, put (cut t old) new (File bytes)))))).1
    by (Ok b) (Ok old) (Ok to) x y z e = record { bytes = b; has = x b refl; old = old; from = y old refl; to = to; at = z to refl; leads = refl }
    by r k p x y z e = absurd cc

pub unmoved : (full : PlainTemp) (path : List ℕ) (fault : Fault) (t : Tree) → answers.Failed fault ≡ (apply t (steps.Persist full path) Plain).0 → (apply t (steps.Persist full path) Plain).1 ≡ t
unfolding apply
unmoved full path fault t e = by (known full.bytes) (kept t full.path) (replaceable t path) e
  where
    by : (r : Result (List ℕ) Fault) (k : Result Names Fault) (p : Result Names Fault)
        → answers.Failed fault ≡ (unless r t (λ bytes. unless k t (λ old. unless p t (λ new. (answers.Done, put (cut t old) new (File bytes)))))).0
        → (unless r t (λ bytes. unless k t (λ old. unless p t (λ new. (answers.Done, put (cut t old) new (File bytes)))))).1 ≡ t
    by (Ok b) (Ok old) (Ok to) e = absurd cc
    by r k p e = refl
