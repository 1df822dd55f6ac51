use Rattle.cacache_laws.proofs.results.{LossResults.{losses_leave_last_links, losses_leave_links}, LinkLosses.{histories_keep_links}}
use Rattle.cacache_laws.proofs.results.losses.link_losses.Goals as goal

pub returns : goal.returns
returns c = record { outlast = histories_keep_links; puts = losses_leave_links; last = losses_leave_last_links }
