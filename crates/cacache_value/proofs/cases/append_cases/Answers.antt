use Rattle.cacache_value.proofs.SingleCases.{append_cases, other_buckets_keep}
use Rattle.cacache_value.proofs.cases.append_cases.Goals as goal

pub returns-clause-bucket : goal.returns-clause-bucket
returns-clause-bucket c = append_cases

pub returns-clause-others : goal.returns-clause-others
returns-clause-others c = other_buckets_keep
