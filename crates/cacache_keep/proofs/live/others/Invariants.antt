use Rattle.cacache_keep.specs.Calls.{AreOthers}
use Rattle.cacache_keep.proofs.live.others.Given as goal

abbrev pub invariant-loop-sri : goal.invariant-loop-sri
invariant-loop-sri l = AreOthers l.live l.yielded l.unused.items
