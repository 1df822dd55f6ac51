use Rattle.std.proofs.Common.{arith}
use Rattle.cacache_laws.proofs.results.WriteResults.{left_write_means}
use Rattle.cacache_laws.proofs.results.losses.after_write_left.Goals as goal

pub returns : goal.returns
returns g c = left_write_means g.C.Clock.given g.N.Names.given c.args.algo c.args.cache.now c.args.key.now c.args.data.now c.args.written.now c.args.env.now c.utf8.key (omega arith) c.log-log.ensures.replayable
