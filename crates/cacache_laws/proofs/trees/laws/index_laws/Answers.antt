use Rattle.cacache_laws.proofs.trees.{Listing.{indexes_agree}, Collected.{indexes_find}}
use Rattle.cacache_laws.proofs.trees.laws.index_laws.Goals as goal

pub returns : goal.returns
returns c = record { finds = indexes_find; agree = indexes_agree }
