use Rattle.cacache_keep.{specs.Syncing.{StopsBuckets}, proofs.{Collections.Fates.{next_bucket, one_bucket}, Stopped.{error_as}}}
use Rattle.cacache_keep.proofs.syncing.sync_buckets.Goals as goal

pub returns-in_err-sync_bucket-clause-stops : goal.returns-in_err-sync_bucket-clause-stops
returns-in_err-sync_bucket-clause-stops g c =
    let old = g.S.Store.log c.args.store.now in
    let mid = g.S.Store.log c.loop-path.store in
    let new = g.S.Store.log c.sync_bucket.new.store in
    let e = c.in_err-sync_bucket.field-0.0 in
    error_as (λ x. StopsBuckets c.args.paths.now x old new) c.from_residual.result e c.from_residual.ensures.1
    (next_bucket c.args.paths.now c.loop-path.path-index c.path-item.result e old mid new c.loop-path-test.true c.path-item.is c.loop-path.invariant c.in_err-sync_bucket.ensures.stops)

pub loop-path-preserved : goal.loop-path-preserved
loop-path-preserved g c =
    let old = g.S.Store.log c.args.store.now in
    let mid = g.S.Store.log c.loop-path.store in
    let new = g.S.Store.log c.sync_bucket.new.store in
    one_bucket c.args.paths.now c.loop-path.path-index c.path-item.result old mid new c.loop-path-test.true c.path-item.is c.loop-path.invariant c.in_ok-sync_bucket.ensures.syncs
