use Rattle.std.proofs.Common.{ℕ, List, subst}
use Rattle.cacache_store.specs.declared.store.step.Step.TheVariants as steps
use Rattle.cacache_calls.specs.SingleSteps.{FailsAt}
use Rattle.cacache_keep.proofs.{NewBuckets.Rewrites.{move_refused}, Collections.Sweeps.{refused_fails}}
use Rattle.cacache_keep.proofs.rewriting.move_to.Goals as goal

pub returns-in-Err-clause-stops : goal.returns-in-Err-clause-stops
returns-in-Err-clause-stops g c =
    let old = g.S.Store.log c.args.store.now in
    let new = g.S.Store.log c.step.new.self in
    let file = g.S.Temp.TempHandle.seen c.args.file in
    let p = c.in_ok-place.place in
    let e = c.refused.result in
    subst (λ (q : List ℕ). FailsAt (steps.Persist file q) e old new) c.in_ok-place.ensures.cases
    (refused_fails (steps.Persist file p) _ c.in-Err.refusal e old new (move_refused file p _ c.in-Err.refusal c.in-Err.ensures c.step.ensures.fits) c.step.ensures.logged c.refused.ensures)
