use Rattle.cacache_laws.proofs.results.ReadResults.{key_read_means}
use Rattle.cacache_laws.proofs.results.looks.after_read.Goals as goal

pub returns : goal.returns
returns g c = key_read_means c.args.cache.now c.args.key.now c.args.read.now c.args.env.now c.log-log.ensures.replayable
