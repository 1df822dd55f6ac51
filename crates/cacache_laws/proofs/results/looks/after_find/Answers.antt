use Rattle.cacache_laws.proofs.results.ReadResults.{lookup_means}
use Rattle.cacache_laws.proofs.results.looks.after_find.Goals as goal

pub returns : goal.returns
returns g c = lookup_means c.args.cache.now c.args.key.now c.args.found.now c.args.env.now c.log-log.ensures.replayable
