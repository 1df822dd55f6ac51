use Rattle.std.proofs.Common.{◌≡◌, ◌++◌, ◌≤◌, map, length}
use Rattle.cacache_entry.specs.{Bucket.{entries_of}, View.{entry_view}}
use Rattle.cacache_entry.proofs.read.entries.Given as goal

abbrev pub invariant-loop-at : goal.invariant-loop-at
invariant-loop-at l = record { within : length l.rest ≤ length l.bytes; value : map entry_view l.found.items ++ entries_of l.rest ≡ entries_of l.bytes }

abbrev pub decreases-loop-at : goal.decreases-loop-at
decreases-loop-at l = length l.rest
