use Rattle.std.proofs.Common.{subst}
use Rattle.cacache_world.{specs.{WorldKept.{setup_of}, Faults.{MayAsk, IsTurnedAway}}, proofs.Worlds.{away_unready}}
use Rattle.cacache_world.proofs.starting.prepare.Goals as goal

pub returns-in-Ok-start-clause-may : goal.returns-in-Ok-start-clause-may
returns-in-Ok-start-clause-may c = λ callers n.
    subst (λ cache. MayAsk (setup_of cache c.args.outside.now callers) n c.args.command.now) c.as_str.ensures.same (c.in-Ok-admit.ensures.may callers n)

pub returns-in-Err-admit-clause-why : goal.returns-in-Err-admit-clause-why
returns-in-Err-admit-clause-why c = λ callers.
    away_unready _ _ _ (setup_of c.args.cache.now c.args.outside.now callers) c.args.command.now c.in-Err-admit.fault (c.in-Ok.ensures.within, c.in-Ok.ensures.free)
    (subst (λ cache. IsTurnedAway (setup_of cache c.args.outside.now callers) c.args.command.now c.in-Err-admit.fault) c.as_str.ensures.same (c.in-Err-admit.ensures.why callers))
