use Rattle.cacache_loss.proofs.ChangedNames.{openings_changed_none, moves_change_few, losses_leave_one_tree, histories_leave_caches}
use Rattle.cacache_loss.proofs.laws.loss_history_laws.Goals as goal

pub returns-clause-none : goal.returns-clause-none
returns-clause-none c = openings_changed_none

pub returns-clause-few : goal.returns-clause-few
returns-clause-few c = moves_change_few

pub returns-clause-one : goal.returns-clause-one
returns-clause-one c = losses_leave_one_tree

pub returns-clause-caches : goal.returns-clause-caches
returns-clause-caches c = histories_leave_caches
