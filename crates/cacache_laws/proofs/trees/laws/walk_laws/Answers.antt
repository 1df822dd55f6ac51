use Rattle.cacache_laws.proofs.trees.Covering.{walks_find, walks_stay}
use Rattle.cacache_laws.proofs.trees.laws.walk_laws.Goals as goal

pub returns : goal.returns
returns c = record { finds = walks_find; below = walks_stay }
