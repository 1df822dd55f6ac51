use Rattle.cacache_laws.proofs.results.RemovalResults.{full_removal_means}
use Rattle.cacache_laws.proofs.results.changes.after_remove_fully.Goals as goal

pub returns : goal.returns
returns g c = full_removal_means c.args.cache.now c.args.key.now c.args.removed.now c.args.env.now c.log-log.ensures.replayable
