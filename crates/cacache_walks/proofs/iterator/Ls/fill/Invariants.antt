use Rattle.std.proofs.Common.{◌≤◌, ℕ, List, Option}
use Rattle.cacache_store.specs.declared.store.log.LogItem.{LogItem}
use Rattle.cacache_calls.specs.State.{Item}
use Rattle.cacache_walks.specs.Iterating.{Gave, IsListing, KeepsEnv, left, steps_left}
use Rattle.cacache_walks.proofs.iterator.Ls.fill.Given as goal

abbrev pub invariant-visits : goal.invariant-visits
invariant-visits g l = record {
  keeps : KeepsEnv l.fn.self l.self;
  gave : (cache : List ℕ) (old : Option (List LogItem)) (given : List Item) → Gave g.S.Store.log cache old l.fn.self given → Gave g.S.Store.log cache old l.self given;
  listing : IsListing g.S.Store.log l.self;
  fewer : left l.self ≤ left l.fn.self;
}

abbrev pub decreases-visits : goal.decreases-visits
decreases-visits g l = steps_left l.self.visit l.self.walk
