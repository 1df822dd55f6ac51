use Rattle.cacache_walks.proofs.Stopping.{error_as}
use Rattle.cacache_walks.proofs.contents.walk.answer_visit.Goals as goal

pub returns-in_err-names-in-Enter-clause-stops : goal.returns-in_err-names-in-Enter-clause-stops
returns-in_err-names-in-Enter-clause-stops g c = error_as _ c.from_residual.result c.in_err-names-in-Enter.field-0.0 c.from_residual.ensures.1 (rw c.in-Enter.is c.in_err-names-in-Enter.ensures.stops)
