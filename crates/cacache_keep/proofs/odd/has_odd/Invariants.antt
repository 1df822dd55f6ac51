use Rattle.std.proofs.Common.{◌≡◌, ◌≤◌, length}
use Rattle.cacache_keep.specs.Checking.{has_odd}
use Rattle.cacache_keep.proofs.odd.has_odd.Given as goal

abbrev pub invariant-loop-at : goal.invariant-loop-at
invariant-loop-at l = record {
  within : length l.rest ≤ length l.bytes;
  value : has_odd l.rest ≡ has_odd l.bytes;
}

abbrev pub decreases-loop-at : goal.decreases-loop-at
decreases-loop-at l = length l.rest
