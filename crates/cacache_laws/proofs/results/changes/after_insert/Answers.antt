use Rattle.cacache_laws.proofs.results.WriteResults.{insertion_means}
use Rattle.cacache_laws.proofs.results.changes.after_insert.Goals as goal

pub returns : goal.returns
returns g c = insertion_means g.C.Clock.given g.N.Names.given c.args.cache.now c.args.key.now c.args.opts.now c.args.inserted.now c.args.env.now c.utf8.key c.log-log.ensures.replayable
