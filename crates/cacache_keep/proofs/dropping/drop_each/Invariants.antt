use Rattle.std.proofs.Common.{take}
use Rattle.cacache_keep.specs.Dropping.{DropsAll}
use Rattle.cacache_keep.proofs.dropping.drop_each.Given as goal

abbrev pub invariant-loop-sri : goal.invariant-loop-sri
invariant-loop-sri g l =
    DropsAll l.limit l.cache (take l.sri-index l.addresses) l.tally (g.S.Store.log l.fn.store) (g.S.Store.log l.store)
