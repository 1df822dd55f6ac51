-- The file was opened at the path, or the step failed.
use Rattle.cacache_program.proofs.TakenFiles.{opened, unopened}
use Rattle.cacache_program.proofs.storing.open.Goals as goal

pub returns-clause-opens : goal.returns-clause-opens
returns-clause-opens g c = opened g.S.File.FileHandle.seen c.args.path.now c.in_ok-named.named _ c.opened_file.result _ _ c.in_ok-named.ensures.cases c.opened_file.ensures c.step.ensures.logged

pub returns-clause-fails : goal.returns-clause-fails
returns-clause-fails g c = unopened g.S.File.FileHandle.seen c.args.path.now c.in_ok-named.named _ c.opened_file.result _ _ c.in_ok-named.ensures.cases c.opened_file.ensures c.step.ensures.fits c.step.ensures.logged
