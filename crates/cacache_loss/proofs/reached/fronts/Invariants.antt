use Rattle.std.proofs.Common.{◌≡◌, ◌++◌, [], take, drop}
use Rattle.cacache_loss.specs.Reached.{fronts}
use Rattle.cacache_loss.proofs.reached.fronts.Given as goal

abbrev pub invariant-loop-i : goal.invariant-loop-i
invariant-loop-i l = l.paths.items ++ fronts (take l.i l.path) (drop l.i l.path) ≡ fronts [] l.path
