use Rattle.std.proofs.Common.{sym, ◌∙◌}
use Rattle.cacache_calls.specs.Walking.{walk_on}
use Rattle.cacache_walks.{specs.WalkStates.{pending}, proofs.Walks.{stumbled, gave_yes, gave_no}}
use Rattle.cacache_walks.proofs.walk.Walk.walk_on.Goals as goal

pub loop-task-preserved : goal.loop-task-preserved
loop-task-preserved c = λ taken counts.
    let before = c.loop-task.invariant taken counts in
    let is = stumbled taken c.loop-task.self c.pop.new.self.items c.in-Stumble.fault c.in-Stumble.path (rw c.in-Stumble.is at c.in-Some.ensures.items) in
    let gives = gave_yes taken c.miss.new.self (walk_on (pending c.pop.new.self.items)) _ c.in-Ok-true.field-0 c.in-Ok-true.field-0-test (c.in-Ok-true.ensures.gives taken before.0 (walk_on (pending c.pop.new.self.items))) in
    (gives.0, rw c.in-Ok-true.ensures.todo (sym gives.1 ∙ sym is ∙ before.1))

pub returns-in-Ok-false : goal.returns-in-Ok-false
returns-in-Ok-false c = λ taken counts.
    let before = c.loop-task.invariant taken counts in
    let is = stumbled taken c.loop-task.self c.pop.new.self.items c.in-Stumble.fault c.in-Stumble.path (rw c.in-Stumble.is at c.in-Some.ensures.items) in
    let gives = gave_no taken c.miss.new.self (walk_on (pending c.pop.new.self.items)) _ c.in-Ok-false.field-0 c.in-Ok-false.field-0-test (c.in-Ok-false.ensures.gives taken before.0 (walk_on (pending c.pop.new.self.items))) in
    (gives.0, sym before.1 ∙ is ∙ gives.1)

pub returns-in-Err : goal.returns-in-Err
returns-in-Err c = λ taken counts.
    let before = c.loop-task.invariant taken counts in
    let is = stumbled taken c.loop-task.self c.pop.new.self.items c.in-Stumble.fault c.in-Stumble.path (rw c.in-Stumble.is at c.in-Some.ensures.items) in
    rw (sym before.1, is) (c.in-Err.ensures.gives taken before.0 (walk_on (pending c.pop.new.self.items)))
