use Rattle.cacache_laws.proofs.results.ReadResults.{content_read_means}
use Rattle.cacache_laws.proofs.results.looks.after_read_hash.Goals as goal

pub returns : goal.returns
returns g c = content_read_means c.args.cache.now c.args.sri.now c.args.read.now c.args.env.now c.address-address.ensures.integrity c.log-log.ensures.replayable
