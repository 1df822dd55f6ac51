use Rattle.cacache_jobs.proofs.Running.{stands_idle}
use Rattle.cacache_jobs.proofs.run.drive.Goals as goal

pub into_phase-phase-requires : goal.into_phase-phase-requires
into_phase-phase-requires g c = stands_idle g.S.File.FileHandle.seen g.S.Temp.TempHandle.seen c.args.job.standing c.requires.0 c.requires.1

pub go_on-requires : goal.go_on-requires
go_on-requires g c = (c.requires.0, c.into_phase-phase.ensures c.requires.0 c.requires.1)

pub returns : goal.returns
returns g c = λ s stands. c.go_on.ensures s (c.into_phase-phase.ensures s stands)
