use Rattle.cacache_keep.proofs.Collections.Sweeps.{RemovedTo}
use Rattle.cacache_keep.proofs.sweeping.remove_files.Given as goal

abbrev pub invariant-loop-file : goal.invariant-loop-file
invariant-loop-file g l = RemovedTo l.folder l.files l.file-index l.bytes (g.S.Store.log l.fn.store) (g.S.Store.log l.store)
