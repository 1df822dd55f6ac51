use Rattle.cacache_store.specs.declared.store.step.Step.TheVariants as steps
use Rattle.cacache_keep.proofs.{NewBuckets.Rewrites.{sync_refused}, Collections.Sweeps.{refused_fails}}
use Rattle.cacache_keep.proofs.rewriting.sync_temp.Goals as goal

pub returns-in-Err-clause-stops : goal.returns-in-Err-clause-stops
returns-in-Err-clause-stops g c =
    let file = g.S.Temp.TempHandle.seen c.args.file in
    refused_fails (steps.SyncTemp file) _ c.in-Err.refusal c.refused.result (g.S.Store.log c.args.store.now) (g.S.Store.log c.step.new.self) (sync_refused file _ c.in-Err.refusal c.in-Err.ensures c.step.ensures.fits) c.step.ensures.logged c.refused.ensures
