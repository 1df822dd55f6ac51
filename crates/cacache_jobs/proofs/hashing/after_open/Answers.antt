use Rattle.std.proofs.Common.{[], refl}
use Rattle.cacache_jobs.proofs.Refusing.{ends_refused}
use Rattle.cacache_jobs.proofs.hashing.after_open.Goals as goal

pub returns-in-Ok : goal.returns-in-Ok
returns-in-Ok g c =
    λ h k. rw c.in-Ok.ensures (record { state = (h, [], k, refl, g.F.FileHandle.seen c.in-Ok.file, refl); wanted = refl })

pub returns-in-Err : goal.returns-in-Err
returns-in-Err g c = λ h k. ends_refused _ c.in-Err.error _ c.in-Err.ensures
