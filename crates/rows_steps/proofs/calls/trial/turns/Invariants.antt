use Rattle.std.specs.Prelude.{IsTrue}
use Rattle.cacache_jobs.specs.Jobs.{can_go_on}
use Rattle.rows_steps.proofs.calls.trial.turns.Given as goal

-- no step is out
abbrev pub invariant-loop-words : goal.invariant-loop-words
invariant-loop-words l = IsTrue (can_go_on l.job)
