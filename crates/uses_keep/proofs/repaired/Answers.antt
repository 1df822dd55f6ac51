use Rattle.cacache_jobs.specs.JobStates.{site_of}
use Rattle.cacache_keep.specs.declared.checking.OddLines.TheVariants.{Refuse}
use Rattle.uses_keep.proofs.repaired.Goals as goal

pub returns : goal.returns
returns g c = λ home is placed. c.keep_laws.ensures.repairs (site_of c.args.cache.now c.args.env.now.base 0) home _ _ c.args.env.now.store c.repair.new.env.store is c.keep_laws.ensures.logged placed (Refuse, c.in_ok-repaired.ensures.repairs)
