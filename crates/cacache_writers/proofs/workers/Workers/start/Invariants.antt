use Rattle.std.proofs.Common.{◌≡◌, length}
use Rattle.cacache_writers.proofs.workers.Workers.start.Given as goal

abbrev pub invariant-loop-share : goal.invariant-loop-share
invariant-loop-share g l = l.workers.threads.len ≡ length l.yielded
