use Rattle.cacache_calls.{specs.Storing.{persist}, proofs.Promises.{stores_only, runs_keep}}
use Rattle.cacache_jobs.proofs.{WrittenCommits.{moved_promise}, Running.{memory_lost}}
use Rattle.cacache_jobs.proofs.committing.commit_from.Goals as goal

pub go_on-requires : goal.go_on-requires
go_on-requires g c = (persist c.args.commit (g.S.Temp.TempHandle.seen c.args.file), c.begin_commit-phase.ensures)

pub returns-clause-ran : goal.returns-clause-ran
returns-clause-ran g c = c.go_on.ensures _ c.begin_commit-phase.ensures

pub returns-clause-promised : goal.returns-clause-promised
returns-clause-promised g c =
    let run = returns-clause-ran g c in
    let file = g.S.Temp.TempHandle.seen c.args.file in
    moved_promise c.args.commit file _ (runs_keep (persist c.args.commit file) run.0 _ run.1)

pub returns-clause-lost : goal.returns-clause-lost
returns-clause-lost g c = let run = returns-clause-ran g c in (run.0, memory_lost _ run.0 _ run.1, run.2)

pub returns-clause-stored : goal.returns-clause-stored
returns-clause-stored g c = stores_only _ _ _ (returns-clause-promised g c)
