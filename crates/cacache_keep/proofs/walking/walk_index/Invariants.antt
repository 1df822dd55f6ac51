use Rattle.cacache_walks.specs.Iterating.{steps_left}
use Rattle.cacache_keep.specs.Walking.{WalksIndex}
use Rattle.cacache_keep.proofs.walking.walk_index.Given as goal

abbrev pub invariant-visits : goal.invariant-visits
invariant-visits g l = WalksIndex l.fn.cache l.next l.walk l.odd.items (g.S.Store.log l.fn.store) (g.S.Store.log l.store)

abbrev pub decreases-visits : goal.decreases-visits
decreases-visits g l = steps_left l.next l.walk
