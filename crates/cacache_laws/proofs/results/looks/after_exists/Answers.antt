use Rattle.cacache_laws.proofs.results.ReadResults.{question_means}
use Rattle.cacache_laws.proofs.results.looks.after_exists.Goals as goal

pub returns : goal.returns
returns g c = question_means c.args.cache.now c.args.sri.now c.args.there.now c.args.env.now c.address-address.ensures.integrity c.log-log.ensures.replayable
