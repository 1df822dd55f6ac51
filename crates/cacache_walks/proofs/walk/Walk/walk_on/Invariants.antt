use Rattle.std.proofs.Common.{◌≡◌, List, length}
use Rattle.cacache_calls.specs.{State.{Item}, Walking.{walk_on}}
use Rattle.cacache_walks.specs.WalkStates.{Counts, pending, walk_of}
use Rattle.cacache_walks.proofs.walk.Walk.walk_on.Given as goal

abbrev pub invariant-loop-task : goal.invariant-loop-task
invariant-loop-task l =
    (taken : List Item) → Counts taken l.fn.self → Counts taken l.self × (walk_on (pending l.self.todo.items) (walk_of taken l.self) ≡ walk_on (pending l.fn.self.todo.items) (walk_of taken l.fn.self))

abbrev pub decreases-loop-task : goal.decreases-loop-task
decreases-loop-task l = length l.self.todo.items
