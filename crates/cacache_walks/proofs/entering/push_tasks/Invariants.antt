use Rattle.std.proofs.Common.{◌≡◌, ◌++◌, ◌≤◌, length, drop}
use Rattle.cacache_calls.specs.Walking.{tasks_of}
use Rattle.cacache_walks.specs.WalkStates.{pending}
use Rattle.cacache_walks.proofs.entering.push_tasks.Given as goal

abbrev pub invariant-loop-left : goal.invariant-loop-left
invariant-loop-left l = record {
  within : l.left ≤ length l.names;
  value : pending l.todo.items ≡ tasks_of l.clears l.level l.folder (drop l.left l.names) ++ pending l.initial.todo.items;
}

abbrev pub decreases-loop-left : goal.decreases-loop-left
decreases-loop-left l = l.left
