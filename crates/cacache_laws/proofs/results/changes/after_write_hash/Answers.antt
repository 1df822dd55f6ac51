use Rattle.cacache_laws.proofs.results.WriteResults.{content_write_means}
use Rattle.cacache_laws.proofs.results.changes.after_write_hash.Goals as goal

pub returns : goal.returns
returns g c = content_write_means g.C.Clock.given g.N.Names.given c.args.algo c.args.cache.now c.args.data.now c.args.written.now c.args.env.now c.log-log.ensures.replayable
