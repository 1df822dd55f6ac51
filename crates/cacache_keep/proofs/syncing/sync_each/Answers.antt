use Rattle.cacache_keep.{specs.Syncing.{StopsInTurn}, proofs.{Losses.SyncedFolders.{next_unsynced, one_synced}, Stopped.{error_as}}}
use Rattle.cacache_keep.proofs.syncing.sync_each.Goals as goal

pub returns-in_err-sync_folder-clause-stops : goal.returns-in_err-sync_folder-clause-stops
returns-in_err-sync_folder-clause-stops g c =
    let old = g.S.Store.log c.args.store.now in
    let mid = g.S.Store.log c.loop-folder.store in
    let new = g.S.Store.log c.sync_folder.new.store in
    let e = c.in_err-sync_folder.field-0.0 in
    error_as (λ x. StopsInTurn c.args.folders.now x old new) c.from_residual.result e c.from_residual.ensures.1
    (next_unsynced c.args.folders.now c.loop-folder.folder-index c.folder-item.result e old mid new c.loop-folder-test.true c.folder-item.is c.loop-folder.invariant c.in_err-sync_folder.ensures.stops)

pub loop-folder-preserved : goal.loop-folder-preserved
loop-folder-preserved g c =
    let old = g.S.Store.log c.args.store.now in
    let mid = g.S.Store.log c.loop-folder.store in
    let new = g.S.Store.log c.sync_folder.new.store in
    one_synced c.args.folders.now c.loop-folder.folder-index c.folder-item.result old mid new c.loop-folder-test.true c.folder-item.is c.loop-folder.invariant c.in_ok-sync_folder.ensures.syncs
