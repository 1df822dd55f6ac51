use Rattle.std.proofs.Common.{ℕ, List, true, inl, inr, subst}
use Rattle.cacache_keep.{specs.Syncing.{StopsBuckets, StopsIndexSync, SyncsBuckets}, proofs.Stopped.{error_as}}
use Rattle.cacache_keep.proofs.syncing.sync_all.Goals as goal

pub returns-in_err-tops-clause-stops : goal.returns-in_err-tops-clause-stops
returns-in_err-tops-clause-stops g c =
    let old = g.S.Store.log c.args.store.now in
    let new = g.S.Store.log c.buckets_of.new.store in
    error_as (λ e. StopsIndexSync true c.args.cache.now e old new) c.from_residual.result c.in_err-tops.field-0.0 c.from_residual.ensures.1 (inl c.in_err-tops.ensures.stops)

pub returns-in_err-sync_buckets-clause-stops : goal.returns-in_err-sync_buckets-clause-stops
returns-in_err-sync_buckets-clause-stops g c =
    let cache = c.args.cache.now in
    let old = g.S.Store.log c.args.store.now in
    let found = g.S.Store.log c.buckets_of.new.store in
    let new = g.S.Store.log c.sync_buckets.new.store in
    let e = c.in_err-sync_buckets.field-0.0 in
    let all = c.in_ok-tops.field-0 in
    let stops = subst (λ (p : List (List ℕ)). StopsBuckets p e found new) c.as_slice.ensures.value c.in_err-sync_buckets.ensures.stops in
    error_as (λ x. StopsIndexSync true cache x old new) c.from_residual-in_err-sync_buckets.result e c.from_residual-in_err-sync_buckets.ensures.1
    (inr (all.tops.items, all.paths.items, found, c.in_ok-tops.ensures.finds, inl stops))

pub returns-in_err-sync_above-clause-stops : goal.returns-in_err-sync_above-clause-stops
returns-in_err-sync_above-clause-stops g c =
    let cache = c.args.cache.now in
    let old = g.S.Store.log c.args.store.now in
    let found = g.S.Store.log c.buckets_of.new.store in
    let done = g.S.Store.log c.sync_buckets.new.store in
    let new = g.S.Store.log c.sync_above.new.store in
    let e = c.in_err-sync_above.field-0.0 in
    let all = c.in_ok-tops.field-0 in
    let each = subst (λ (p : List (List ℕ)). SyncsBuckets p found done) c.as_slice.ensures.value c.in_ok-sync_buckets.ensures.syncs in
    error_as (λ x. StopsIndexSync true cache x old new) c.from_residual-in_err-sync_above.result e c.from_residual-in_err-sync_above.ensures.1
    (inr (all.tops.items, all.paths.items, found, c.in_ok-tops.ensures.finds, inr (done, each, c.in_err-sync_above.ensures.stops)))

pub returns-clause-syncs : goal.returns-clause-syncs
returns-clause-syncs g c =
    let found = g.S.Store.log c.buckets_of.new.store in
    let done = g.S.Store.log c.sync_buckets.new.store in
    let all = c.in_ok-tops.field-0 in
    let each = subst (λ (p : List (List ℕ)). SyncsBuckets p found done) c.as_slice.ensures.value c.in_ok-sync_buckets.ensures.syncs in
    (all.tops.items, all.paths.items, found, done, c.in_ok-tops.ensures.finds, each, c.in_ok-sync_above.ensures.syncs)
