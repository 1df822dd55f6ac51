use Rattle.cacache_value.proofs.OpeningTrees.{files_open}
use Rattle.cacache_value.proofs.laws.opening_laws.Goals as goal

pub returns : goal.returns
returns c = files_open
