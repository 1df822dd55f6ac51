use Rattle.std.proofs.Common.{subst}
use Rattle.cacache_writers.proofs.work.work_by.Goals as goal

-- no work was taken: the pair that was taken has none in it
pub returns-in-None : goal.returns-in-None
returns-in-None g c =
    let file = c.take-work.result.1 in
    record { works = (file, subst (λ work. g.Take.FnOnce.post c.args.take (tt {0}) (work, file)) c.in-None.is c.take-work.ensures) }
