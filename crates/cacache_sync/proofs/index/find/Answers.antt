use Rattle.std.proofs.Common.{subst, sym}
use Rattle.cacache_calls.specs.{declared.{command.Command.TheVariants.{Find}, reply.Reply.{Reply}}, Runs.{Ran}, Table.{opening}}
use Rattle.cacache_jobs.specs.JobStates.{site_of}
use Rattle.cacache_sync.{specs.Lookups.{LooksUp}, proofs.Lookups.{looks_up}}
use Rattle.cacache_sync.proofs.index.find.Goals as goal

pub returns-clause-looks : goal.returns-clause-looks
returns-clause-looks g c =
    let site = site_of c.args.cache.now c.args.env.now.base 0 in
    let old = g.S.Store.log c.args.env.now.store in
    let new = g.S.Store.log c.call.new.env.store in
    let key = c.in_ok-from_str.field-0 in
    subst (λ named. LooksUp c.args.cache.now named old new c.looked_up.result) c.in_ok-from_str.ensures
    (looks_up site key c.looked_up.result old new
    (subst (λ (r : Reply). Ran (opening site (Find key)) r old new) (sym c.looked_up.ensures) c.call.ensures.ran))
