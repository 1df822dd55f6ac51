use Rattle.std.{proofs.Common.{subst}, specs.Prelude.{IfOk}}
use Rattle.cacache_jobs.specs.ReadFirst.{ReadsFound}
use Rattle.cacache_sync.proofs.reading.read_sync.Goals as goal

pub returns-clause-verified : goal.returns-clause-verified
returns-clause-verified g c =
    subst (λ key. IfOk c.read.result (λ bytes. ReadsFound c.args.cache.now key bytes.items (g.S.Store.log c.args.env.now.store) (g.S.Store.log c.read.new.env.store)))
    c.in_ok-from_str.ensures c.read.ensures.found
