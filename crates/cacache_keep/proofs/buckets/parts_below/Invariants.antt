use Rattle.std.proofs.Common.{take}
use Rattle.cacache_keep.specs.Buckets.{ListsParts}
use Rattle.cacache_keep.proofs.buckets.parts_below.Given as goal

abbrev pub invariant-loop-folder : goal.invariant-loop-folder
invariant-loop-folder g l = ListsParts l.last (take l.folder-index l.folders) l.paths.items (g.S.Store.log l.fn.store) (g.S.Store.log l.store)
