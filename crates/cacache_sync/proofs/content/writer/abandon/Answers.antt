use Rattle.cacache_store.specs.declared.store.step.Step.TheVariants as steps
use Rattle.cacache_sync.proofs.content.StepAnswers.{removal_refused, refused_fails}
use Rattle.cacache_sync.proofs.content.writer.abandon.Goals as goal

pub returns : goal.returns
returns g c =
    let named = c.in_ok-named.named in
    let is = removal_refused named _ c.in-Err.refusal c.in-Err.ensures c.step.ensures.fits in
    let fails = refused_fails (steps.RemoveFile named) _ c.in-Err.refusal c.refused.result _ _ is c.step.ensures.logged c.refused.ensures in
    rw c.in_ok-named.ensures.cases at fails
