use Rattle.std.proofs.Common.{refl}
use Rattle.cacache_jobs.specs.JobStates.{site_of}
use Rattle.cacache_jobs.proofs.opening.open.Goals as goal

pub returns-in-Put : goal.returns-in-Put
returns-in-Put g c = rw c.in-Put.is (c.store.ensures (site_of c.args.cache.now c.args.base.now c.args.number) refl refl)

pub returns-in-Link : goal.returns-in-Link
returns-in-Link g c = rw c.in-Link.is (c.start.ensures c.args.number)

pub returns-in-Ls : goal.returns-in-Ls
returns-in-Ls g c = rw c.in-Ls.is c.list.ensures

pub returns-in-Clear : goal.returns-in-Clear
returns-in-Clear g c = rw c.in-Clear.is c.clear.ensures
