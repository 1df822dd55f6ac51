use Rattle.std.proofs.Common.{◌≡◌, ◌≤◌, length}
use Rattle.cacache_keep.specs.Parting.{has_other}
use Rattle.cacache_keep.proofs.odd.has_other.Given as goal

abbrev pub invariant-loop-at : goal.invariant-loop-at
invariant-loop-at l = record {
  within : length l.rest ≤ length l.bytes;
  value : has_other l.key l.rest ≡ has_other l.key l.bytes;
}

abbrev pub decreases-loop-at : goal.decreases-loop-at
decreases-loop-at l = length l.rest
