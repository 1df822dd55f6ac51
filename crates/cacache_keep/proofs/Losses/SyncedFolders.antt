-- Folders that are synced, one after another, and why that ends.
use Rattle.std.proofs.{Common.{◌≡◌, ◌+◌, ◌<◌, ℕ, List, [], ◌∷◌, ◌++◌, Option, refl, sym, ap, subst, ◌∙◌, length, take, drop, get_or}, lemmas.List.{drop_more, take-append-drop, take_more}}
use Rattle.cacache_core.specs.declared.errors.Error.{Error}
use Rattle.cacache_store.specs.declared.store.answer.Answer.TheVariants as answers
use Rattle.cacache_store.specs.declared.store.log.LogItem.{LogItem}
use Rattle.cacache_store.specs.declared.store.step.Step.TheVariants as steps
use Rattle.cacache_calls.specs.SingleSteps.{Does, FailsAt}
use Rattle.cacache_keep.specs.Syncing.{StopsInTurn, SyncsInTurn}

synced_on : (folders : List (List ℕ)) (f : List ℕ) (old mid new : Option (List LogItem)) → SyncsInTurn folders old mid → Does (steps.SyncDir f) answers.Done mid new → SyncsInTurn (folders ++ f ∷ []) old new
synced_on [] f old mid new h one = (new, subst (λ (log : Option (List LogItem)). Does (steps.SyncDir f) answers.Done log new) h one, refl)
synced_on (x ∷ folders) f old mid new h one = (h.0, h.1, synced_on folders f h.0 mid new h.2 one)

-- one folder more
pub one_synced : (folders : List (List ℕ)) (k : ℕ) (f : List ℕ) (old mid new : Option (List LogItem)) → k < length folders → f ≡ get_or folders k f → SyncsInTurn (take k folders) old mid → Does (steps.SyncDir f) answers.Done mid new → SyncsInTurn (take (k + 1) folders) old new
one_synced folders k f old mid new below is h one =
    subst (λ (l : List (List ℕ)). SyncsInTurn l old new) (sym (take_more folders k f below ∙ ap (λ (x : List ℕ). take k folders ++ x ∷ []) (sym is))) (synced_on (take k folders) f old mid new h one)

-- the next one stops it
pub next_unsynced : (folders : List (List ℕ)) (k : ℕ) (f : List ℕ) (e : Error) (old mid new : Option (List LogItem)) → k < length folders → f ≡ get_or folders k f → SyncsInTurn (take k folders) old mid → FailsAt (steps.SyncDir f) e mid new → StopsInTurn folders e old new
next_unsynced folders k f e old mid new below is h stop = record {
  synced = take k folders;
  rest = f ∷ drop (k + 1) folders;
  split = sym (take-append-drop k folders) ∙ ap (λ (l : List (List ℕ)). take k folders ++ l) (drop_more folders k f below ∙ ap (λ (x : List ℕ). x ∷ drop (k + 1) folders) (sym is));
  between = mid;
  syncing = h;
  stop = stop;
}
