use Rattle.std.proofs.Common.{◌≡◌, map}
use Rattle.cacache_calls.specs.{Runs.{plain_item}, Walking.{walk_on, items_in}}
use Rattle.cacache_walks.{specs.WalkStates.{pending}, proofs.Walks.{gave_no}}
use Rattle.cacache_walks.proofs.walk.Walk.give_listed.Goals as goal

pub returns : goal.returns
returns c = λ taken counts.
    let is : map plain_item c.in_ok-items.items.items ≡ items_in c.args.bytes = rw c.as_slice.ensures at c.in_ok-items.ensures.items in
    let over = gave_no taken c.give.new.self (walk_on (pending c.args.self.now.todo.items)) _ c.in_ok-give.field-0 c.if-branch.false (c.in_ok-give.ensures.gives taken counts (walk_on (pending c.args.self.now.todo.items))) in
    rw is at over
