use Rattle.std.proofs.Common.{◌≡◌, true, false}
use Rattle.cacache_jobs.proofs.Checking.{checked_met, checked_unmet}
use Rattle.cacache_jobs.proofs.reading.answer_checked.Goals as goal

pub returns-in-Ok : goal.returns-in-Ok
returns-in-Ok g c =
    checked_met c.args.content c.args.bytes (rw c.as_slice.ensures at c.in-Ok.ensures.ok.0)

pub returns : goal.returns
returns g c =
    let met = rw c.as_slice.ensures at c.in-Err.ensures.met in
    let is = rw c.as_slice.ensures at c.in-Err.ensures.err in
    checked_unmet c.args.content c.args.bytes c.in-Err.error (λ m. let refused : false ≡ true = met m in absurd cc) is
