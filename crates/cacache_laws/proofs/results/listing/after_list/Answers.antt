use Rattle.cacache_laws.proofs.results.ReadResults.{listing_means}
use Rattle.cacache_laws.proofs.results.listing.after_list.Goals as goal

pub returns : goal.returns
returns g c = listing_means c.args.cache.now c.args.listed.now c.args.env.now c.log-log.ensures.replayable
