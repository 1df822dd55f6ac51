use Rattle.cacache_laws.proofs.results.ExportResults.{sharing_means}
use Rattle.cacache_laws.proofs.results.outside.after_share.Goals as goal

pub returns : goal.returns
returns g c = λ source how checked. sharing_means c.args.cache.now source how checked c.args.to.now c.args.shared.now c.args.env.now c.log-log.ensures.replayable
