use Rattle.cacache_value.proofs.SingleCases.{link_cases}
use Rattle.cacache_value.proofs.cases.link_cases.Goals as goal

pub returns : goal.returns
returns c = link_cases
