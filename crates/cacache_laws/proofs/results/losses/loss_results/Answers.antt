use Rattle.cacache_laws.proofs.results.LossResults.{losses_leave_last, losses_leave_puts, losses_leave_standing}
use Rattle.cacache_laws.proofs.results.losses.loss_results.Goals as goal

pub returns : goal.returns
returns c = record { stands = losses_leave_standing; puts = losses_leave_puts; last = losses_leave_last }
