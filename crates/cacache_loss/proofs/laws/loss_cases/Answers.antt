use Rattle.cacache_loss.proofs.LossCases.{loss_rows, undone_puts_go, failed_syncs_fix_nothing}
use Rattle.cacache_loss.proofs.laws.loss_cases.Goals as goal

pub returns-clause-rows : goal.returns-clause-rows
returns-clause-rows c = loss_rows

pub returns-clause-undone : goal.returns-clause-undone
returns-clause-undone c = undone_puts_go

pub returns-clause-failed : goal.returns-clause-failed
returns-clause-failed c = failed_syncs_fix_nothing
