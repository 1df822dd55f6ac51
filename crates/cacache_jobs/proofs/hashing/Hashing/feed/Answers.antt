use Rattle.cacache_jobs.proofs.hashing.Hashing.feed.Goals as goal

pub returns-in-Verify : goal.returns-in-Verify
returns-in-Verify c =
    λ h bytes k.
    let s = rw c.in-Verify.is at k in
    (s.0, s.1, c.input.ensures s.0.integrity bytes s.2, s.3)
