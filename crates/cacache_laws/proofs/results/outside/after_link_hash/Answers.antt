use Rattle.cacache_laws.proofs.results.WriteResults.{content_link_means}
use Rattle.cacache_laws.proofs.results.outside.after_link_hash.Goals as goal

pub returns : goal.returns
returns g c = content_link_means c.args.cache.now c.args.target.now c.args.linked.now c.args.env.now c.log-log.ensures.replayable
