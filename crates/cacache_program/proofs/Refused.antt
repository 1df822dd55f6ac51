-- What a whole read answers if it is refused.
use Rattle.std.proofs.Common.{◌≡◌, ℕ, List, Err}
use Rattle.cacache_store.specs.declared.store.answer.Answer.TheVariants as answers
use Rattle.cacache_store.specs.declared.store.step.Step.TheVariants as steps
use Rattle.cacache_store.specs.Plain.{Fits, PlainAnswer}
use Rattle.cacache_calls.specs.{declared.answers.Refusal.{Refusal}, Answers.{bytes_in}}
use Rattle.cacache_sync.proofs.content.StepAnswers.{Refuses}

pub read_refused : (path : List ℕ) (t : PlainAnswer) (refusal : Refusal) → Err refusal ≡ bytes_in t → Fits (steps.ReadAll path) t → Refuses t refusal
read_refused path (answers.Failed fault) refusal is fits = cc
read_refused path (answers.NoMemory b) refusal is fits = cc
read_refused path (answers.Bytes b) refusal is fits = absurd cc
read_refused path t refusal is fits = absurd fits
