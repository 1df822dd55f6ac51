-- The laws of a collection, and of one that an error ended.
use Rattle.std.{proofs.Common.{Result, Ok, Err}, specs.Prelude.{IfErr, IfOk}}
use Rattle.cacache_core.specs.declared.errors.Error.{Error}
use Rattle.cacache_jobs.specs.JobStates.{site_of}
use Rattle.cacache_keep.specs.{declared.checking.OddLines.TheVariants.{Refuse}, Behind.{KeepsKeys}}
use Rattle.uses_keep.proofs.tidied.Goals as goal

-- what a value and an error alike give
in_both : {X : Type 0} (r : Result X Error) (A : Type 0) (P : X → Type 0) (Q : Error → Type 0) → ((x : X) → P x → A) → ((e : Error) → Q e → A) → IfOk r P → IfErr r Q → A
in_both (Ok x) A P Q f g done stopped = f x done
in_both (Err e) A P Q f g done stopped = g e stopped

pub returns : goal.returns
returns g c = λ folder.
    let home = c.success_laws.ensures.homes c.args.cache.now folder in
    let laws = c.keep_laws.ensures in
    in_both c.collect-collected.result (KeepsKeys c.args.cache.now c.args.env.now.store c.collect-collected.new.env.store) _ _
    (λ x done. laws.keys (site_of c.args.cache.now c.args.env.now.base 0) home.0 _ _ c.args.env.now.store c.collect-collected.new.env.store home.1 laws.logged c.requires (Refuse, done))
    (λ e stopped. laws.stopped Refuse (site_of c.args.cache.now c.args.env.now.base 0) home.0 e c.args.env.now.store c.collect-collected.new.env.store home.1 laws.logged c.requires stopped)
    c.collect-collected.ensures.collects c.collect-collected.ensures.stops
