use Rattle.std.{proofs.Common.{take}, specs.BTreeMap.{get}}
use Rattle.cacache_disk.specs.Tree.{Tree, names_cmp}
use Rattle.cacache_loss.specs.Running.{files_in, FilesSettleAt, NamesSettleAt}
use Rattle.cacache_loss.proofs.running.settle.Given as goal

abbrev pub invariant-loop-i : goal.invariant-loop-i
invariant-loop-i l =
    ((first : Tree) → FilesSettleAt l.effect l.disk l.paths l.places (take l.i l.paths) (files_in first l.fn.files) (files_in first l.files))
    × NamesSettleAt l.effect l.disk l.paths l.places (take l.i l.paths) (get names_cmp l.fn.names) (get names_cmp l.names)
