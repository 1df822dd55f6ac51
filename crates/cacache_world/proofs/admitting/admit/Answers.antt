use Rattle.std.proofs.Common.{subst}
use Rattle.cacache_world.specs.{WorldKept.{setup_of}, Faults.{Judges}}
use Rattle.cacache_world.proofs.admitting.admit.Goals as goal

pub returns-in-Ok-true-clause-may : goal.returns-in-Ok-true-clause-may
returns-in-Ok-true-clause-may c = λ callers n.
    subst (λ may. Judges may (setup_of c.args.cache.now c.args.outside.now callers) n c.args.command.now) c.in-Ok-true.field-0-test (c.in-Ok-true.ensures callers n)

pub returns-in-Ok-false-clause-why : goal.returns-in-Ok-false-clause-why
returns-in-Ok-false-clause-why c = λ callers.
    subst (λ may. Judges may (setup_of c.args.cache.now c.args.outside.now callers) 0 c.args.command.now) c.in-Ok-false.field-0-test (c.in-Ok-false.ensures callers 0)
