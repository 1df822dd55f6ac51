use Rattle.cacache_laws.proofs.results.RemovalResults.{removal_means}
use Rattle.cacache_laws.proofs.results.changes.after_remove.Goals as goal

pub returns : goal.returns
returns g c = removal_means g.C.Clock.given c.args.cache.now c.args.key.now c.args.removed.now c.args.env.now c.utf8.key c.log-log.ensures.replayable
