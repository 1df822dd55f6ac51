use Rattle.std.proofs.Common.{◌≡◌, ◌≤◌, ◌+◌, length}
use Rattle.cacache_entry.specs.Bucket.{entries_of, latest, pieces_read}
use Rattle.cacache_entry.proofs.search.latest.Given as goal

abbrev pub invariant-loop-at : goal.invariant-loop-at
invariant-loop-at l = record {
  within : l.pieces + length l.rest ≤ length l.bytes;
  value : latest l.key (entries_of l.rest) ≡ latest l.key (entries_of l.bytes);
  count : l.pieces + pieces_read l.key l.rest ≡ pieces_read l.key l.bytes;
}

abbrev pub decreases-loop-at : goal.decreases-loop-at
decreases-loop-at l = length l.rest
