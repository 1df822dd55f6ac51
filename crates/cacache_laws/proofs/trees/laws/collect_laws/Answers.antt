use Rattle.cacache_laws.proofs.trees.Led.{caches_link_out}
use Rattle.cacache_laws.proofs.trees.laws.collect_laws.Goals as goal

pub returns : goal.returns
returns c = record { links = caches_link_out }
