use Rattle.cacache_value.proofs.SingleCases.{kind_cases}
use Rattle.cacache_value.proofs.cases.kind_cases.Goals as goal

pub returns : goal.returns
returns c = kind_cases
