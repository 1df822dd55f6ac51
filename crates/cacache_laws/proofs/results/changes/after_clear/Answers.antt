use Rattle.cacache_laws.proofs.results.RemovalResults.{clearing_means}
use Rattle.cacache_laws.proofs.results.changes.after_clear.Goals as goal

pub returns : goal.returns
returns g c = clearing_means c.args.cache.now c.args.cleared.now c.args.env.now c.log-log.ensures.replayable
