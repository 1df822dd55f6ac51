use Rattle.std.proofs.Common.{◌≡◌, take}
use Rattle.cacache_keep.specs.Compacting.{CompactsAll}
use Rattle.cacache_keep.proofs.compacting.compact_each.Given as goal

abbrev pub invariant-loop-path : goal.invariant-loop-path
invariant-loop-path g l =
    CompactsAll l.durable l.cache (take l.path-index l.paths) l.done.buckets l.done.bytes (g.S.Store.log l.fn.env.store) (g.S.Store.log l.env.store)
    × (l.env.clock ≡ l.fn.env.clock) × (l.env.base ≡ l.fn.env.base)
