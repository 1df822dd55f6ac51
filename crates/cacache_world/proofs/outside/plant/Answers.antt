use Rattle.std.proofs.Common.{ap, ◌∙◌, sym}
use Rattle.cacache_history.{specs.Setup.{may_export}, proofs.StepActs.{export_elsewhere}}
use Rattle.cacache_world.specs.WorldKept.{setup_of}
use Rattle.cacache_world.proofs.outside.plant.Goals as goal

pub returns-in-Ok-Ok-clause-free : goal.returns-in-Ok-Ok-clause-free
returns-in-Ok-Ok-clause-free c =
    let s = setup_of c.args.cache.now c.args.before.now 0 in
    sym (sym c.in-Ok-true.field-0-test ∙ c.in-Ok-true.ensures 0 ∙ ap (may_export s) c.as_str.ensures.same)

pub returns-in-Ok-Ok-clause-apart : goal.returns-in-Ok-Ok-clause-apart
returns-in-Ok-Ok-clause-apart c =
    let s = setup_of c.args.cache.now c.args.before.now 0 in
    export_elsewhere s c.args.file.now.0 (sym (sym c.in-Ok-true.field-0-test ∙ c.in-Ok-true.ensures 0 ∙ ap (may_export s) c.as_str.ensures.same))
