use Rattle.cacache_system_model.proofs.bucket.{Lookups.{lookups_see_moments, lookups_see_answered}, Runs.{appends_write_once, reads_go_to_end}}
use Rattle.cacache_system_model.proofs.bucket.bucket_file_laws.Goals as goal

pub returns : goal.returns
returns c = record { moments = lookups_see_moments; answered = lookups_see_answered; writes = appends_write_once; reads = reads_go_to_end }
