use Rattle.std.proofs.Common.{◌≤◌, ◌+◌, length}
use Rattle.cacache_laws.specs.trees.Compacting.{lines_of}
use Rattle.cacache_keep.proofs.odd.most_lines.Given as goal

abbrev pub invariant-loop-at : goal.invariant-loop-at
invariant-loop-at l = record {
  within : l.most + length l.rest ≤ length l.bytes;
  value : length (lines_of l.bytes) ≤ l.most + length (lines_of l.rest);
}

abbrev pub decreases-loop-at : goal.decreases-loop-at
decreases-loop-at l = length l.rest
