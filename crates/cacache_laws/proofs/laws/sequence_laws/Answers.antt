use Rattle.cacache_laws.proofs.{Calls.{Sequence.{openings_are_sound, runs_are_calls, calls_answer_alone, sequences_answer}, CallErrors.{calls_fail_only}}, Readings.ReadAnswers.{replies_follow, reads_keep}, Putting.{Stored.{inserts_add, deletes_add}, Puts.{puts_store}}}
use Rattle.cacache_laws.proofs.laws.sequence_laws.Goals as goal

pub returns : goal.returns
returns c = record {
  openings = openings_are_sound;
  calls = runs_are_calls;
  one = calls_answer_alone;
  replies = replies_follow;
  keeps = reads_keep;
  puts = puts_store;
  inserts = inserts_add;
  deletes = deletes_add;
  fails = calls_fail_only;
  sequences = sequences_answer;
}
