-- A question is a run of one step.
use Rattle.std.proofs.Common.{◌≡◌, inl, inr, ℕ, Bool, List, [], ◌∷◌, Option, Result, Ok, Err, refl, subst, ◌∙◌}
use Rattle.cacache_core.specs.declared.{errors.Error.{Error}, integrity.digest.Hash.{Hash}}
use Rattle.cacache_store.specs.declared.store.step.Step.TheVariants as steps
use Rattle.cacache_store.specs.declared.store.answer.Answer.TheVariants as answers
use Rattle.cacache_store.specs.{declared.store.log.LogItem.{LogItem}, Plain.{PlainAnswer, Fits, Logs}}
use Rattle.cacache_calls.specs.declared.command.Command.TheVariants as commands
use Rattle.cacache_calls.specs.{declared.reply.Reply.{Reply, TheVariants.{Exists}}, Answers.{there_in}, Steps.{content_path}, Replies.{there_reply}, Runs.{Ran, reply_of}, State.{Site}, Table.{opening}}
use Rattle.cacache_calls.proofs.Going.{no_gain}
use Rattle.cacache_sync.specs.Reads.{AsksContent}

-- the store's answer makes the reply
asks_once : (site : Site) (i : List Hash) (t : PlainAnswer) (r : Reply) (old new : Option (List LogItem)) → Fits (steps.Exists (content_path site.cache i)) t
    → Logs old new (steps.Exists (content_path site.cache i)) t → r ≡ there_reply (there_in t) → Ran (opening site (commands.Exists i)) r old new
asks_once site i (answers.There there) r old new fits logs is = ((steps.Exists (content_path site.cache i), answers.There there) ∷ [], (refl, fits, inl (rw is refl)), logs)
asks_once site i (answers.Failed fault) r old new fits logs is = ((steps.Exists (content_path site.cache i), answers.Failed fault) ∷ [], (refl, fits, inl (rw is refl)), logs)
asks_once site i (answers.NoMemory back) r old new fits logs is = ([], inr is, logs ∙ no_gain old)
asks_once site i other r old new fits logs is = absurd fits

-- ---- the same in the words of a log

-- what the store said, as what is answered
abbrev Told : List ℕ → List Hash → PlainAnswer → Result Bool Error → Type 0
Told cache i t result =
    (old new : Option (List LogItem)) → Fits (steps.Exists (content_path cache i)) t → Logs old new (steps.Exists (content_path cache i)) t
    → reply_of Exists result ≡ there_reply (there_in t) → AsksContent cache i old new result

told : (cache : List ℕ) (i : List Hash) (t : PlainAnswer) (result : Result Bool Error) → Told cache i t result
told cache i (answers.There is) (Ok there) old new fits logs shown = let same : there ≡ is = cc in rw same (inl logs)
told cache i (answers.There is) (Err e) old new fits logs shown = absurd cc
told cache i (answers.Failed fault) (Ok there) old new fits logs shown = inr (fault, logs, cc)
told cache i (answers.Failed fault) (Err e) old new fits logs shown = absurd cc
told cache i (answers.NoMemory back) (Ok there) old new fits logs shown = absurd cc
told cache i (answers.NoMemory back) (Err e) old new fits logs shown = logs
told cache i other result old new fits logs shown = absurd fits

-- the path of the step is the content's
pub told_at : (cache : List ℕ) (i : List Hash) (path : List ℕ) (t : PlainAnswer) (result : Result Bool Error) (old new : Option (List LogItem)) → path ≡ content_path cache i
    → Fits (steps.Exists path) t → Logs old new (steps.Exists path) t → reply_of Exists result ≡ there_reply (there_in t) → AsksContent cache i old new result
told_at cache i path t result old new at fits logs shown =
    told cache i t result old new (subst (λ p. Fits (steps.Exists p) t) at fits) (subst (λ p. Logs old new (steps.Exists p) t) at logs) shown

-- the path of the step is the content's
pub asks_at : (site : Site) (i : List Hash) (path : List ℕ) (t : PlainAnswer) (r : Reply) (old new : Option (List LogItem)) → path ≡ content_path site.cache i
    → Fits (steps.Exists path) t → Logs old new (steps.Exists path) t → r ≡ there_reply (there_in t) → Ran (opening site (commands.Exists i)) r old new
asks_at site i path t r old new at fits logs is =
    asks_once site i t r old new (subst (λ p. Fits (steps.Exists p) t) at fits) (subst (λ p. Logs old new (steps.Exists p) t) at logs) is
