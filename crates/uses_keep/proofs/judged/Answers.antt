use Rattle.cacache_jobs.specs.JobStates.{site_of}
use Rattle.uses_keep.proofs.judged.Goals as goal

pub returns : goal.returns
returns g c = λ home is. (c.keep_laws.ensures.verifies (site_of c.args.cache.now c.args.env.now.base 0) home _ _ _ _ c.args.env.now.store c.verify.new.env.store is c.keep_laws.ensures.logged c.in_ok-verdict.ensures.verifies.0).0
