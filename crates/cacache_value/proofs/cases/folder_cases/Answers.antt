use Rattle.cacache_value.proofs.SingleCases.{folder_cases}
use Rattle.cacache_value.proofs.cases.folder_cases.Goals as goal

pub returns : goal.returns
returns c = folder_cases
