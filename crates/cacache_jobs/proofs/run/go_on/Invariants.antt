use Rattle.cacache_calls.specs.State.{State}
use Rattle.cacache_jobs.{specs.{JobStates.{Leads}, Effort.{result_effort}}, proofs.Running.{Reached}}
use Rattle.cacache_jobs.proofs.run.go_on.Given as goal

abbrev pub invariant-steps : goal.invariant-steps
invariant-steps g l =
    let file = g.S.File.FileHandle.seen in
    let temp = g.S.Temp.TempHandle.seen in
    record {
      stands : (s : State) × Leads file temp l.phase s;
      reached : (s0 : State) → Leads file temp l.fn.phase s0 → (s : State) × Leads file temp l.phase s × Reached s0 (g.S.Store.log l.fn.store) (g.S.Store.log l.store) s;
    }

abbrev pub decreases-steps : goal.decreases-steps
decreases-steps g l = result_effort g.S.File.FileHandle.seen g.S.Temp.TempHandle.seen l.phase
