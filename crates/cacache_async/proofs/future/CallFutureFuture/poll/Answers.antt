use Rattle.std.proofs.Common.{rules, ◌≡◌, Some, subst, sym}
use Rattle.cacache_async.specs.Futures.{MayAnswer}
use Rattle.cacache_async.proofs.future.CallFutureFuture.poll.Goals as goal

pub returns-in-Some-clause-value : goal.returns-in-Some-clause-value
returns-in-Some-clause-value g c =
    let is : c.args.self.now.call ≡ Some c.in-Some.call = search rules in
    subst (λ o. MayAnswer g.K.Call.makes o c.args.self.now.env.now c.make.result)
    (sym is) (c.make.new.env, c.make.ensures)
