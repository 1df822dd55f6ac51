use Rattle.std.{proofs.Common.{length}, specs.{Fn.{FnReturnsAt}, List.{FoldsTo}}}
use Rattle.cacache_writers.specs.{declared.worker.Turned.{Turned}, Turning.{IsBoth, TurnEach}}
use Rattle.cacache_writers.proofs.workers.turn_each.Given as goal

-- whatever the turns of the rest come to, beside what came so far, those of all come to
abbrev pub invariant-loop-worker : goal.invariant-loop-worker
invariant-loop-worker g l =
    (last : Turned)
    → FoldsTo (λ all w next. (t : Turned) × FnReturnsAt g.Turn.Fn l.turn w t × IsBoth all t next) l.all l.rest last
    → TurnEach (λ w t. FnReturnsAt g.Turn.Fn l.turn w t) l.fn.workers last

abbrev pub decreases-loop-worker : goal.decreases-loop-worker
decreases-loop-worker g l = length l.rest
