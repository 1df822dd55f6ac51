-- Steps and answers that have plain files already are seen unchanged.
use Rattle.std.proofs.Common.{◌≡◌, refl, ap}
use Rattle.cacache_store.specs.declared.store.step.Step.TheVariants as steps
use Rattle.cacache_store.specs.declared.store.answer.Answer.TheVariants as answers
use Rattle.cacache_store.specs.Plain.{PlainStep, PlainAnswer, plain_step, plain_answer}

pub plain_step_same : (step : PlainStep) → plain_step (λ file. file) (λ temp. temp) step ≡ step
plain_step_same (steps.MakeDirs p) = refl
plain_step_same step = refl

pub plain_answer_same : (answer : PlainAnswer)
    → plain_answer (λ file. file) (λ temp. temp) answer ≡ answer
plain_answer_same (answers.NoMemory s) = ap answers.NoMemory (plain_step_same s)
plain_answer_same answer = refl
