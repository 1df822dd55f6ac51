use Rattle.cacache_history.specs.Setup.{call_site}
use Rattle.cacache_world.{specs.WorldKept.{setup_of}, proofs.MayBegin.{judges_link}}
use Rattle.cacache_world.proofs.admitting.may_begin_link.Goals as goal

pub returns : goal.returns
returns c = λ cache callers n.
    let s = setup_of cache c.args.outside.now callers in
    judges_link s n c.args.link.now c.in_ok-leads.leads (c.in_ok-leads.ensures cache callers) (c.form_link.ensures (call_site s n))
