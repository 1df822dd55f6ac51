use Rattle.cacache_laws.proofs.results.ExportResults.{copy_means}
use Rattle.cacache_laws.proofs.results.outside.after_copy.Goals as goal

pub returns : goal.returns
returns g c = λ source checked. copy_means c.args.cache.now source checked c.args.to.now c.args.copied.now c.args.env.now c.log-log.ensures.replayable
