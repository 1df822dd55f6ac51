use Rattle.cacache_laws.proofs.results.WriteResults.{link_means}
use Rattle.cacache_laws.proofs.results.outside.after_link.Goals as goal

pub returns : goal.returns
returns g c = link_means g.C.Clock.given c.args.cache.now c.args.key.now c.args.target.now c.args.linked.now c.args.env.now c.utf8.key c.log-log.ensures.replayable
