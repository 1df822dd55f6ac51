use Rattle.cacache_system_model.proofs.bucket.Names.{named_reads_are_moments, named_answered_are_read}
use Rattle.cacache_system_model.proofs.bucket.bucket_name_laws.Goals as goal

pub returns : goal.returns
returns c = record { moments = named_reads_are_moments; answered = named_answered_are_read }
