use Rattle.std.proofs.Common.{◌≡◌}
use Rattle.cacache_writers.proofs.workers.workers_of.Given as goal

abbrev pub invariant-loop-writer : goal.invariant-loop-writer
invariant-loop-writer g l = l.workers.len ≡ l.writer-index
