use Rattle.cacache_history.proofs.durable.Outlasting.{histories_outlive}
use Rattle.cacache_history.proofs.durable.laws.durable_laws.Goals as goal

pub returns : goal.returns
returns c = histories_outlive
