use Rattle.cacache_laws.proofs.results.LossResults.{left_read_means}
use Rattle.cacache_laws.proofs.results.losses.after_read_left.Goals as goal

pub returns : goal.returns
returns g c = left_read_means c.args.cache.now c.args.key.now c.args.read.now c.args.env.now c.log-log.ensures.replayable
