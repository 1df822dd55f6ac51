use Rattle.std.proofs.Common.{◌≡◌, ◌++◌, false, length}
use Rattle.cacache_laws.specs.trees.Compacting.{text_of}
use Rattle.cacache_keep.specs.Lines.{in_order, without_tombstones}
use Rattle.cacache_keep.proofs.lines.text_of_last.Given as goal

abbrev pub invariant-loop-line : goal.invariant-loop-line
invariant-loop-line l =
    l.text.items ++ text_of (without_tombstones l.odd (in_order l.last.items)) ≡ text_of (without_tombstones false (in_order l.fn.last.items))

abbrev pub decreases-loop-line : goal.decreases-loop-line
decreases-loop-line l = length l.last.items
