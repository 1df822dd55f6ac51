use Rattle.std.proofs.Common.{◌∙◌}
use Rattle.cacache_keep.{specs.Compacting.{StopsCompactingEach}, proofs.{NewBuckets.Rewrites.{next_loose, one_compacted}, Stopped.{error_as}}}
use Rattle.cacache_keep.proofs.compacting.compact_each.Goals as goal

pub returns-in_err-saving-clause-stops : goal.returns-in_err-saving-clause-stops
returns-in_err-saving-clause-stops g c =
    let old = g.S.Store.log c.args.env.now.store in
    let mid = g.S.Store.log c.loop-path.env.store in
    let new = g.S.Store.log c.compact_bucket.new.env.store in
    let e = c.in_err-saving.field-0.0 in
    error_as (λ x. StopsCompactingEach c.args.durable c.args.cache.now c.args.paths.now x old new) c.from_residual.result e c.from_residual.ensures.1
    (next_loose c.args.durable c.args.cache.now c.args.paths.now c.loop-path.path-index c.path-item.result c.loop-path.done.buckets c.loop-path.done.bytes e old mid new c.loop-path-test.true c.path-item.is c.loop-path.invariant.0 c.in_err-saving.ensures.stops)

pub loop-path-preserved : goal.loop-path-preserved
loop-path-preserved g c =
    let old = g.S.Store.log c.args.env.now.store in
    let mid = g.S.Store.log c.loop-path.env.store in
    let new = g.S.Store.log c.compact_bucket.new.env.store in
    let one = c.in_ok-saving.ensures.compacts in (
      one_compacted c.args.durable c.args.cache.now c.args.paths.now c.loop-path.path-index c.path-item.result one.0 c.in_ok-saving.saving c.loop-path.done.buckets c.loop-path.done.bytes c.and_one-done.result.buckets c.and_one-done.result.bytes old mid new c.loop-path-test.true c.path-item.is c.loop-path.invariant.0 one.1 one.2
          c.and_one-done.ensures.buckets c.and_one-done.ensures.bytes,
      c.compact_bucket.ensures.clock ∙ c.loop-path.invariant.1,
      c.compact_bucket.ensures.base ∙ c.loop-path.invariant.2,
    )
