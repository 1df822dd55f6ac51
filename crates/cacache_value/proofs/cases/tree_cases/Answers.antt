use Rattle.cacache_value.proofs.SingleCases.{tree_cases}
use Rattle.cacache_value.proofs.cases.tree_cases.Goals as goal

pub returns : goal.returns
returns c = tree_cases
