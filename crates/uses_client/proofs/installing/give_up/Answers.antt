-- What each part leaves, joined.
use Rattle.std.proofs.Common.{Some, [], subst, sym}
use Rattle.cacache.specs.Laws.{LeavesKnownCache}
use Rattle.uses_client.proofs.installing.give_up.Goals as goal

pub returns-in_err-written : goal.returns-in_err-written
returns-in_err-written g c =
    let opened = c.in_ok-opened.ensures in
    record { leaves = c.joining_laws.ensures.leavings _ _ _ _ opened.leaves (c.in_err-written.ensures.fed c.args.cache.now (Some c.args.key.now) _ [] opened.leaves.0 opened.writer) }

pub returns : goal.returns
returns g c =
    let opened = c.in_ok-opened.ensures in
    let fed = c.in_ok-written.ensures.fed c.args.cache.now (Some c.args.key.now) _ [] opened.leaves.0 opened.writer in
    let left = subst (λ log. LeavesKnownCache c.args.cache.now c.args.env.now.store log) (sym fed.2) opened.leaves in
    record { leaves = c.joining_laws.ensures.leavings _ _ _ _ left (c.leave.ensures c.args.cache.now (Some c.args.key.now) _ _ left.0 fed.0) }
