use Rattle.std.proofs.Common.{[]}
use Rattle.cacache_jobs.proofs.walking.resume.Goals as goal

pub returns-in-Ok : goal.returns-in-Ok
returns-in-Ok g c = λ counts. c.go_to.ensures _ (c.in-Ok.ensures [] counts)

pub returns-in-Err : goal.returns-in-Err
returns-in-Err g c = λ counts. c.in-Err.ensures [] counts
