use Rattle.std.proofs.Common.{◌≡◌, cond, None, take}
use Rattle.cacache_core.specs.Paths.{Names}
use Rattle.cacache_disk.specs.Tree.{look}
use Rattle.cacache_loss.specs.{Running.{lost_of}, Reached.{is_among}}
use Rattle.cacache_loss.proofs.left.Losing.left_at_each.Given as goal

abbrev pub invariant-loop-i : goal.invariant-loop-i
invariant-loop-i l = (q : Names) → look l.nodes q ≡ cond (is_among q (take l.i l.paths)) (lost_of l.self q) None
