-- The law of a second collection, with the base folder that both had.
use Rattle.std.proofs.Common.{Some, refl, subst}
use Rattle.cacache_jobs.specs.JobStates.{site_of}
use Rattle.cacache_keep.specs.{declared.checking.OddLines.TheVariants.{Refuse}, Keeping.{Collects}}
use Rattle.uses_keep.proofs.collected_twice.Goals as goal

pub returns : goal.returns
returns g c = λ home is out.
    let old = c.args.env.now.store in
    let mid = c.collect.new.env.store in
    let new = c.collect-2.new.env.store in
    let again = c.in_ok-again.again in
    let second = subst (λ base. Collects (site_of c.args.cache.now base 0) again.kept again.dropped.items (Some mid) (Some new)) c.collect.ensures.base (Refuse, c.in_ok-again.ensures.collects) in
    (c.keep_laws-2.ensures.settles (site_of c.args.cache.now c.args.env.now.base 0) home _ _ _ _ old mid mid new is c.keep_laws.ensures.logged c.keep_laws-2.ensures.logged out refl (Refuse, c.in_ok-collect.ensures.collects) second).1
