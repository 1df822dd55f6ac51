use Rattle.std.proofs.{Common.{◌≡◌, ◌+◌, ◌≤◌, ◌<◌, ◌++◌, take, length, length-append, sym, arith}, lemmas.List.{length-take-le}}
use Rattle.cacache_walks.proofs.Walks.{given_over}
use Rattle.cacache_walks.proofs.walk.Walk.give.Goals as goal

pub returns-clause-gives : goal.returns-clause-gives
returns-clause-gives c = λ taken counts next.
    let over : c.args.self.now.room < length c.args.items.items = omega (arith, c.if-count-self.false, c.len-count.ensures) in
    let is = given_over taken c.args.self.now.items.items c.args.items.items c.args.self.now.room counts over c.args.self.now.clears c.args.self.now.left next in
    let more : c.append-2.new.self.items ≡ c.args.self.now.items.items ++ take c.args.self.now.room c.args.items.items = rw c.truncate.ensures.items at c.in_ok-append-2.ensures.items in
    rw (is, sym more) (c.in-Err.ensures.fails taken)

pub returns-in-Ok-clause-gives : goal.returns-in-Ok-clause-gives
returns-in-Ok-clause-gives c = λ taken counts next.
    let over : c.args.self.now.room < length c.args.items.items = omega (arith, c.if-count-self.false, c.len-count.ensures) in
    let is = given_over taken c.args.self.now.items.items c.args.items.items c.args.self.now.room counts over c.args.self.now.clears c.args.self.now.left next in
    let more : c.append-2.new.self.items ≡ c.args.self.now.items.items ++ take c.args.self.now.room c.args.items.items = rw c.truncate.ensures.items at c.in_ok-append-2.ensures.items in
    let kept : length (take c.args.self.now.room c.args.items.items) ≤ c.args.self.now.room = grind (arith, length-take-le) in
    let all : length c.append-2.new.self.items ≡ length c.args.self.now.items.items + length (take c.args.self.now.room c.args.items.items) = rw more (length-append c.args.self.now.items.items (take c.args.self.now.room c.args.items.items)) in
    let one = c.in-Ok.ensures.one_more in
    (omega (arith, counts, kept, all, one), rw (is, sym more) (c.in-Ok.ensures.ends taken))
