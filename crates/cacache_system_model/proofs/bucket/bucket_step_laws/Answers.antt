use Rattle.cacache_system_model.proofs.bucket.Writes.{writes_are_appends, whole_are_of_steps, steps_leave_file, reads_are_of_disk}
use Rattle.cacache_system_model.proofs.bucket.bucket_step_laws.Goals as goal

pub returns : goal.returns
returns c = record { appends = writes_are_appends; acts = whole_are_of_steps; disk = steps_leave_file; reads = reads_are_of_disk }
