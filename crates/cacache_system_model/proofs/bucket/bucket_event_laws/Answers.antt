use Rattle.cacache_system_model.proofs.bucket.{Moments.{entries_are_whole, read_begins, reads_are_moments, beginnings_are_moments, later_reads_have_more, answered_are_read}, Places.{completed_were_started}}
use Rattle.cacache_system_model.proofs.bucket.bucket_event_laws.Goals as goal

pub returns : goal.returns
returns c = record {
  whole = entries_are_whole;
  started = completed_were_started;
  begins = read_begins;
  moments = reads_are_moments;
  beginnings = beginnings_are_moments;
  later = later_reads_have_more;
  answered = answered_are_read;
}
