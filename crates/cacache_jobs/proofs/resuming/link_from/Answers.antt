use Rattle.cacache_calls.{specs.Storing.{link}, proofs.Promises.{stores_only, runs_keep}}
use Rattle.cacache_jobs.proofs.Running.{memory_lost}
use Rattle.cacache_jobs.proofs.resuming.link_from.Goals as goal

pub go_on-requires : goal.go_on-requires
go_on-requires g c = (link c.args.commit c.args.target, c.link-phase.ensures)

pub returns-clause-ran : goal.returns-clause-ran
returns-clause-ran g c = c.go_on.ensures _ c.link-phase.ensures

pub returns-clause-promised : goal.returns-clause-promised
returns-clause-promised g c =
    let run = returns-clause-ran g c in
    runs_keep (link c.args.commit c.args.target) run.0 _ run.1

pub returns-clause-lost : goal.returns-clause-lost
returns-clause-lost g c = let run = returns-clause-ran g c in (run.0, memory_lost _ run.0 _ run.1, run.2)

pub returns-clause-stored : goal.returns-clause-stored
returns-clause-stored g c = stores_only _ _ _ (returns-clause-promised g c)
