use Rattle.std.proofs.Common.{◌≡◌, ◌+◌, ◌≤◌, drop}
use Rattle.cacache_shared.specs.Lines.{moves}
use Rattle.cacache_shared.proofs.counting.count_moves.Given as goal

abbrev pub invariant-loop-line : goal.invariant-loop-line
invariant-loop-line l = record {
  sum : l.count + moves (drop l.line-index l.lines) ≡ moves l.lines;
  few : l.count ≤ l.line-index;
}
