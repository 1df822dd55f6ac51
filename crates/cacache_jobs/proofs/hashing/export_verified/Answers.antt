use Rattle.std.proofs.Common.{◌≡◌, true, false}
use Rattle.cacache_jobs.proofs.Checking.{verified_met, verified_unmet}
use Rattle.cacache_jobs.proofs.hashing.export_verified.Goals as goal

pub returns-in-Ok : goal.returns-in-Ok
returns-in-Ok g c =
    λ k bytes compares from size.
    rw (verified_met k c.args.export bytes (c.in-Ok.ensures.ok k.integrity bytes compares).0, ← from, ← size) c.export_from.ensures

pub returns-in-Err : goal.returns-in-Err
returns-in-Err g c =
    λ k bytes compares from size.
    verified_unmet k c.args.export bytes c.in-Err.error
    (λ m. let refused : false ≡ true = c.in-Err.ensures.met k.integrity bytes compares m in absurd cc)
    (c.in-Err.ensures.err k.integrity bytes compares)
