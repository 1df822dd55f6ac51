use Rattle.cacache_store.specs.declared.store.step.Step.TheVariants as steps
use Rattle.cacache_sync.proofs.content.StepAnswers.{file_refused, refused_fails}
use Rattle.cacache_sync.proofs.content.reader.open.Goals as goal

pub returns-in-Err-clause-opens : goal.returns-in-Err-clause-opens
returns-in-Err-clause-opens g c =
    let path = c.in_ok-path.path in
    let is = file_refused path _ c.in-Err.refusal c.in-Err.ensures c.step.ensures.fits in
    rw (← c.in_ok-path.ensures) (refused_fails (steps.Open path) _ c.in-Err.refusal c.refused.result _ _ is c.step.ensures.logged c.refused.ensures)
