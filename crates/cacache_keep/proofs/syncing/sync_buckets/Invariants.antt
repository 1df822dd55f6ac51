use Rattle.std.proofs.Common.{take}
use Rattle.cacache_keep.specs.Syncing.{SyncsBuckets}
use Rattle.cacache_keep.proofs.syncing.sync_buckets.Given as goal

abbrev pub invariant-loop-path : goal.invariant-loop-path
invariant-loop-path g l = SyncsBuckets (take l.path-index l.paths) (g.S.Store.log l.fn.store) (g.S.Store.log l.store)
