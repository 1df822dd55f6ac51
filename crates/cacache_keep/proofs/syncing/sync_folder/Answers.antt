use Rattle.std.proofs.Common.{ℕ, List, subst}
use Rattle.cacache_store.specs.declared.store.step.Step.TheVariants as steps
use Rattle.cacache_calls.specs.SingleSteps.{FailsAt}
use Rattle.cacache_keep.proofs.{NewBuckets.Rewrites.{securing_refused}, Collections.Sweeps.{refused_fails}}
use Rattle.cacache_keep.proofs.syncing.sync_folder.Goals as goal

pub returns-in-Err-clause-stops : goal.returns-in-Err-clause-stops
returns-in-Err-clause-stops g c =
    let old = g.S.Store.log c.args.store.now in
    let new = g.S.Store.log c.step.new.self in
    let p = c.in_ok-place.place in
    let e = c.refused.result in
    subst (λ (q : List ℕ). FailsAt (steps.SyncDir q) e old new) c.in_ok-place.ensures.cases
    (refused_fails (steps.SyncDir p) _ c.in-Err.refusal e old new (securing_refused p _ c.in-Err.refusal c.in-Err.ensures c.step.ensures.fits) c.step.ensures.logged c.refused.ensures)
