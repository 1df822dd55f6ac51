use Rattle.cacache_laws.proofs.results.FetchedResults.{getting_means}
use Rattle.cacache_laws.proofs.results.composed.after_get_or_put.Goals as goal

pub returns : goal.returns
returns g c = λ fetch old small sound got.
    getting_means g.C.Clock.given g.N.Names.given c.args.cache.now c.args.key.now c.utf8.key (g.F.FnOnce.post fetch tt) small c.args.got.now old c.args.env.now c.log-log.ensures.replayable sound got
