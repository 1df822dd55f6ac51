use Rattle.cacache_jobs.proofs.Refusing.{reading_gives, reading_fails}
use Rattle.cacache_jobs.proofs.inserting.no_integrity.Goals as goal

pub returns-clause-ok : goal.returns-clause-ok
returns-clause-ok c = reading_gives _ c.parse.ensures.ok

pub returns-clause-err : goal.returns-clause-err
returns-clause-err c = reading_fails _ c.parse.ensures.err
