use Rattle.std.proofs.Common.{take}
use Rattle.cacache_keep.specs.Syncing.{SyncsInTurn}
use Rattle.cacache_keep.proofs.syncing.sync_each.Given as goal

abbrev pub invariant-loop-folder : goal.invariant-loop-folder
invariant-loop-folder g l = SyncsInTurn (take l.folder-index l.folders) (g.S.Store.log l.fn.store) (g.S.Store.log l.store)
