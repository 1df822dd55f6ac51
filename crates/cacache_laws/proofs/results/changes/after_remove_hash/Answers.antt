use Rattle.cacache_laws.proofs.results.RemovalResults.{content_removal_means}
use Rattle.cacache_laws.proofs.results.changes.after_remove_hash.Goals as goal

pub returns : goal.returns
returns g c = content_removal_means c.args.cache.now c.args.sri.now c.args.removed.now c.args.env.now c.address-address.ensures.integrity c.log-log.ensures.replayable
