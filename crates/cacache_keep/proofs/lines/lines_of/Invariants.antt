use Rattle.std.proofs.Common.{◌≡◌, ◌++◌, ◌≤◌, map, length}
use Rattle.cacache_laws.specs.trees.Compacting.{lines_of}
use Rattle.cacache_keep.specs.Lines.{line_view}
use Rattle.cacache_keep.proofs.lines.lines_of.Given as goal

abbrev pub invariant-loop-at : goal.invariant-loop-at
invariant-loop-at l = record {
  within : length l.rest ≤ length l.bytes;
  value : map line_view l.lines.items ++ lines_of l.rest ≡ lines_of l.bytes;
}

abbrev pub decreases-loop-at : goal.decreases-loop-at
decreases-loop-at l = length l.rest
