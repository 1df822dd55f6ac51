use Rattle.cacache_system_model.proofs.bucket.Cases.{torn_reads_happen}
use Rattle.cacache_system_model.proofs.bucket.bucket_file_cases.Goals as goal

pub returns : goal.returns
returns c = torn_reads_happen
