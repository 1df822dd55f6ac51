use Rattle.std.proofs.Common.{ℕ, List, inl, inr, subst}
use Rattle.cacache_keep.{specs.Compacting.{CompactsAll, StopsCompacting, StopsCompactingEach}, proofs.Stopped.{error_as}}
use Rattle.cacache_keep.proofs.compacting.compact_open.Goals as goal

pub returns-in_err-tops-clause-stops : goal.returns-in_err-tops-clause-stops
returns-in_err-tops-clause-stops g c =
    let old = g.S.Store.log c.args.env.now.store in
    let new = g.S.Store.log c.buckets_of.new.store in
    error_as (λ e. StopsCompacting c.args.durable c.args.cache.now e old new) c.from_residual.result c.in_err-tops.field-0.0 c.from_residual.ensures.1 (inl c.in_err-tops.ensures.stops)

pub returns-in_err-done-clause-stops : goal.returns-in_err-done-clause-stops
returns-in_err-done-clause-stops g c =
    let durable = c.args.durable in
    let cache = c.args.cache.now in
    let old = g.S.Store.log c.args.env.now.store in
    let found = g.S.Store.log c.buckets_of.new.store in
    let new = g.S.Store.log c.compact_each.new.env.store in
    let e = c.in_err-done.field-0.0 in
    let all = c.in_ok-tops.field-0 in
    let stops = subst (λ (p : List (List ℕ)). StopsCompactingEach durable cache p e found new) c.as_slice.ensures.value c.in_err-done.ensures.stops in
    error_as (λ x. StopsCompacting durable cache x old new) c.from_residual-in_err-done.result e c.from_residual-in_err-done.ensures.1
    (inr (all.tops.items, all.paths.items, found, c.in_ok-tops.ensures.finds, inl stops))

pub returns-in_err-sync_above-clause-stops : goal.returns-in_err-sync_above-clause-stops
returns-in_err-sync_above-clause-stops g c =
    let durable = c.args.durable in
    let cache = c.args.cache.now in
    let old = g.S.Store.log c.args.env.now.store in
    let found = g.S.Store.log c.buckets_of.new.store in
    let done = g.S.Store.log c.compact_each.new.env.store in
    let new = g.S.Store.log c.sync_above.new.store in
    let e = c.in_err-sync_above.field-0.0 in
    let all = c.in_ok-tops.field-0 in
    let r = c.in_ok-done.done in
    let each = subst (λ (p : List (List ℕ)). CompactsAll durable cache p r.buckets r.bytes found done) c.as_slice.ensures.value c.in_ok-done.ensures.compacts in
    error_as (λ x. StopsCompacting durable cache x old new) c.from_residual-in_err-sync_above.result e c.from_residual-in_err-sync_above.ensures.1
    (inr (all.tops.items, all.paths.items, found, c.in_ok-tops.ensures.finds, inr (r.buckets, r.bytes, done, each, c.in_err-sync_above.ensures.stops)))

pub returns-clause-compacts : goal.returns-clause-compacts
returns-clause-compacts g c =
    let durable = c.args.durable in
    let cache = c.args.cache.now in
    let found = g.S.Store.log c.buckets_of.new.store in
    let done = g.S.Store.log c.compact_each.new.env.store in
    let all = c.in_ok-tops.field-0 in
    let r = c.in_ok-done.done in
    let each = subst (λ (p : List (List ℕ)). CompactsAll durable cache p r.buckets r.bytes found done) c.as_slice.ensures.value c.in_ok-done.ensures.compacts in
    (all.tops.items, all.paths.items, found, done, c.in_ok-tops.ensures.finds, each, c.in_ok-sync_above.ensures.syncs)
