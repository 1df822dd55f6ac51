use Rattle.std.proofs.Common.{ap, ◌∙◌}
use Rattle.cacache_history.specs.Setup.{may_export}
use Rattle.cacache_world.{specs.WorldKept.{setup_of}, proofs.MayBegin.{judges_export}}
use Rattle.cacache_world.proofs.admitting.may_begin_export.Goals as goal

pub returns : goal.returns
returns c = λ callers n.
    let s = setup_of c.args.cache.now c.args.outside.now callers in
    judges_export s n c.args.source.now c.args.export.now c.in_ok-may.may (c.in_ok-may.ensures callers ∙ ap (may_export s) c.as_str.ensures.same) c.known_source.ensures
