use Rattle.std.proofs.Common.{◌≤◌, drop, length, map}
use Rattle.cacache_keep.{specs.Limits.{weight_of}, proofs.Aging.{Holds}}
use Rattle.cacache_keep.proofs.limits.first_kept.Given as goal

abbrev pub invariant-loop-first : goal.invariant-loop-first
invariant-loop-first l = (l.first ≤ length l.weighed) × Holds l.limits l.room (map weight_of (drop l.first l.weighed))

abbrev pub decreases-loop-first : goal.decreases-loop-first
decreases-loop-first l = l.first
