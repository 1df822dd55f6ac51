-- A pruning with the limits at the clock's moment was told.
use Rattle.std.proofs.Common.{arith, inl, inr, refl, subst}
use Rattle.cacache_jobs.specs.JobStates.{site_of}
use Rattle.cacache_keep.specs.Pruning.{StopsPruning}
use Rattle.cacache_program.{specs.{KeepValues.{text_of_pruned}, Orders.{order_of}}, proofs.{Made.{made_puts}, PruneTold.{pruned_told}}}
use Rattle.cacache_program.proofs.keep.pruning.prune_with_roots.Goals as goal

pub returns-in-Ok-clause-does : goal.returns-in-Ok-clause-does
returns-in-Ok-clause-does g c =
    let o = order_of c.args.order in
    let limits = c.limits_of-limits in
    let opts = c.opts_of.ensures in
    let it = c.in-Ok.ensures.prunes in
    let p = c.in-Ok.pruned in
    let status = c.status_of_pruned-status in
    let before = g.W.Write.contents c.args.output.now in
    let after = g.W.Write.contents c.put_made.new.output in
    let puts = made_puts c.pruned_text.result (λ t. t.items) (text_of_pruned p) status.result before after c.put_made.result (omega arith) c.pruned_text.ensures c.put_made.ensures.made c.put_made.ensures.unmade in
    record {
      rest = (c.in-Ok.ensures.names, c.in-Ok.ensures.base);
      moment = limits.ensures.0;
      asked = limits.new.clock;
      asks = limits.ensures.1;
      told = inl (pruned_told g.S.Store.log g.C.Clock.given o c.args.roots.now c.args.env.now c.prune.new.env before after c.put_made.result limits.result limits.ensures.0 limits.new.clock it.0 p status.result limits.ensures.2 (rw opts.grace at it.1) (rw (opts.keep, opts.durable) at it.2) status.ensures.status puts);
    }

pub returns-in-Err-clause-does : goal.returns-in-Err-clause-does
returns-in-Err-clause-does g c =
    let o = order_of c.args.order in
    let limits = c.limits_of-limits in
    let opts = c.opts_of.ensures in
    let e = c.in-Err.error in
    let log = g.S.Store.log in
    let stops = subst (λ l. StopsPruning l o.durable (site_of o.cache c.args.env.now.base 0) e (log c.args.env.now.store) (log c.prune.new.env.store)) limits.ensures.2 (rw opts.durable at c.in-Err.ensures.stops) in
    record {
      rest = (c.in-Err.ensures.names, c.in-Err.ensures.base);
      moment = limits.ensures.0;
      asked = limits.new.clock;
      asks = limits.ensures.1;
      told = inr (e, stops, c.tell_failed_call.ensures, refl);
    }
