use Rattle.cacache_keep.proofs.Collections.Sizes.{ToldTo}
use Rattle.cacache_keep.proofs.planning.sizes_of.Given as goal

abbrev pub invariant-loop-address : goal.invariant-loop-address
invariant-loop-address g l = ToldTo l.cache l.yielded l.unused.items (g.S.Store.log l.fn.store) (g.S.Store.log l.store)
