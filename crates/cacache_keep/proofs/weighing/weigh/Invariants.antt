use Rattle.std.proofs.Common.{length}
use Rattle.cacache_keep.{specs.Weighing.{HasPaths, in_line}, proofs.Weights.{WeighedTo}}
use Rattle.cacache_keep.proofs.weighing.weigh.Given as goal

abbrev pub invariant-loop-entry : goal.invariant-loop-entry
invariant-loop-entry g l =
    WeighedTo l.cache l.fn.entries.items l.rest.items l.weighed.items (g.S.Store.log l.fn.store) (g.S.Store.log l.store)
    × HasPaths l.cache (in_line l.weighed.items) l.seen

abbrev pub decreases-loop-entry : goal.decreases-loop-entry
decreases-loop-entry g l = length l.rest.items
