use Rattle.cacache_value.proofs.SingleCases.{content_cases, removed_buckets_go}
use Rattle.cacache_value.proofs.cases.content_cases.Goals as goal

pub returns-clause-contents : goal.returns-clause-contents
returns-clause-contents c = content_cases

pub returns-clause-bucket : goal.returns-clause-bucket
returns-clause-bucket c = removed_buckets_go
