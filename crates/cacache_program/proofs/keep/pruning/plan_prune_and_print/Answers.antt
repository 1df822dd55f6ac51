-- A plan with the limits at the clock's moment was told.
use Rattle.std.proofs.Common.{arith, inl, inr, refl, subst, sym}
use Rattle.cacache_jobs.specs.Environment.{AsksMoment}
use Rattle.cacache_program.{specs.KeepValues.{text_of_prune_plan}, proofs.{Made.{made_puts}, PruneTold.{planned_told}}}
use Rattle.cacache_program.proofs.keep.pruning.plan_prune_and_print.Goals as goal

pub returns-in-Ok-clause-does : goal.returns-in-Ok-clause-does
returns-in-Ok-clause-does g c =
    let limits = c.limits_of-limits in
    let it = c.in-Ok in
    let moments = g.C.Clock.given in
    let before = g.W.Write.contents c.args.output.now in
    let after = g.W.Write.contents c.put_made.new.output in
    let status = c.put_made.result in
    let puts = made_puts c.prune_plan_text.result (λ t. t.items) (text_of_prune_plan it.plan) 0 before after status (omega arith) c.prune_plan_text.ensures c.put_made.ensures.made c.put_made.ensures.unmade in
    let asks = subst (λ clock. AsksMoment moments c.args.env.now.clock clock limits.ensures.0) (sym it.ensures.clock) limits.ensures.1 in
    (it.ensures.names, it.ensures.base, inl (planned_told g.S.Store.log c.args.order.size c.args.order.age c.args.order.cache.now c.args.env.now c.plan_prune.new.env before after status moments limits.result limits.ensures.0 it.plan asks limits.ensures.2 it.ensures.plans puts))

pub returns-in-Err-clause-does : goal.returns-in-Err-clause-does
returns-in-Err-clause-does g c =
    let it = c.in-Err in
    (it.ensures.names, it.ensures.base, inr (it.error, it.ensures.stops, c.tell_failed_call.ensures, refl))
