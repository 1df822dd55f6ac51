use Rattle.uses_worlds.proofs.Callers.{appended_are_found, lookups_read_whole}
use Rattle.uses_worlds.proofs.processes.processes_share_a_bucket.Goals as goal

pub returns : goal.returns
returns c = record {
  whole = lookups_read_whole c.bucket_file_laws.ensures.moments;
  found = appended_are_found c.bucket_file_laws.ensures.answered;
}
