use Rattle.cacache_calls.specs.Walking.{walk_on}
use Rattle.cacache_walks.{specs.WalkStates.{pending}, proofs.Walks.{gave_no}}
use Rattle.cacache_walks.proofs.walk.Walk.after_refusal.Goals as goal

pub returns-else-branch : goal.returns-else-branch
returns-else-branch c = λ taken counts.
    rw c.in-Fault.is (gave_no taken c.miss.new.self (walk_on (pending c.args.self.now.todo.items)) _ c.in_ok-miss-in-Fault.field-0 c.if-branch.false (c.in_ok-miss-in-Fault.ensures.gives taken counts (walk_on (pending c.args.self.now.todo.items))))
