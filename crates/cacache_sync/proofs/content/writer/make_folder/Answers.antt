use Rattle.cacache_store.specs.declared.store.step.Step.TheVariants as steps
use Rattle.cacache_sync.proofs.content.StepAnswers.{folder_refused, refused_fails}
use Rattle.cacache_sync.proofs.content.writer.make_folder.Goals as goal

pub returns-in-Err-clause-err : goal.returns-in-Err-clause-err
returns-in-Err-clause-err g c =
    let folder = c.in_ok-folder.folder in
    let is = folder_refused folder _ c.in-Err.refusal c.in-Err.ensures c.step.ensures.fits in
    let fails = refused_fails (steps.MakeDirs folder) _ c.in-Err.refusal c.refused.result _ _ is c.step.ensures.logged c.refused.ensures in
    rw c.in_ok-folder.ensures at fails
