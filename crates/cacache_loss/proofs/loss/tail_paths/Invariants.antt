use Rattle.cacache_loss.proofs.ChosenLosses.{TailsSoFar}
use Rattle.cacache_loss.proofs.loss.tail_paths.Given as goal

abbrev pub invariant-loop-i : goal.invariant-loop-i
invariant-loop-i l = TailsSoFar l.tails l.files l.i
