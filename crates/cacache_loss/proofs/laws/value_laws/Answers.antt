use Rattle.cacache_loss.proofs.LostTrees.{contents_are_held, entries_are_held}
use Rattle.cacache_loss.proofs.laws.value_laws.Goals as goal

pub returns-clause-contents : goal.returns-clause-contents
returns-clause-contents c = contents_are_held

pub returns-clause-entries : goal.returns-clause-entries
returns-clause-entries c = entries_are_held
