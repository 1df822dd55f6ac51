use Rattle.std.proofs.Common.{◌≡◌, ◌++◌, List, length, map}
use Rattle.cacache_laws.specs.trees.Compacting.{Line}
use Rattle.cacache_keep.specs.Lines.{HasKeys, in_order, last_lines, line_view}
use Rattle.cacache_keep.proofs.lines.last_lines.Given as goal

abbrev pub invariant-loop-line : goal.invariant-loop-line
invariant-loop-line l =
    (later : List Line) × (map line_view l.lines ≡ map line_view l.rest ++ later) × HasKeys later l.keys × (in_order l.last.items ≡ last_lines later)

abbrev pub decreases-loop-line : goal.decreases-loop-line
decreases-loop-line l = length l.rest
