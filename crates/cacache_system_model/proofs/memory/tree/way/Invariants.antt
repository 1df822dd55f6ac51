use Rattle.std.proofs.Common.{◌≡◌, [], take, drop}
use Rattle.cacache_disk.specs.LedTo.{way_fault}
use Rattle.cacache_system_model.proofs.memory.tree.way.Given as goal

abbrev pub invariant-loop-i : goal.invariant-loop-i
invariant-loop-i l = way_fault l.disk [] l.names ≡ way_fault l.disk (take l.i l.names) (drop l.i l.names)
