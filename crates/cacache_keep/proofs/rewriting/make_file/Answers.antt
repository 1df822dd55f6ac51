use Rattle.std.proofs.Common.{IfErr, ℕ, List, subst}
use Rattle.cacache_store.specs.declared.store.step.Step.TheVariants as steps
use Rattle.cacache_calls.specs.SingleSteps.{FailsAt}
use Rattle.cacache_keep.proofs.NewBuckets.Rewrites.{brings_stops}
use Rattle.cacache_keep.proofs.rewriting.make_file.Goals as goal

pub returns-clause-stops : goal.returns-clause-stops
returns-clause-stops g c =
    let old = g.S.Store.log c.args.store.now in
    let new = g.S.Store.log c.step.new.self in
    subst (λ (q : List ℕ). IfErr c.made_temp.result (λ e. FailsAt (steps.CreateTemp q) e old new)) c.in_ok-path.ensures
    (brings_stops g.S.Temp.TempHandle.seen c.in_ok-path.path _ c.made_temp.result old new c.made_temp.ensures c.step.ensures.fits c.step.ensures.logged)
