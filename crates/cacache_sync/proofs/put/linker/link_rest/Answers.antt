use Rattle.std.proofs.Common.{◌≡◌, ◌∙◌}
use Rattle.cacache_core.specs.{Hashers.{algorithm_of}, Integrity.{integrity_under}}
use Rattle.cacache_sync.proofs.Linkers.{lost_so, ran_through}
use Rattle.cacache_sync.proofs.put.linker.link_rest.Goals as goal

pub returns-in-Ok-result-clause-ran : goal.returns-in-Ok-result-clause-ran
returns-in-Ok-result-clause-ran g c =
    λ bytes holds under is.
    let x = c.in-Ok.ensures c.args.target bytes holds is in
    let same : algorithm_of c.read_rest.new.hasher ≡ c.args.target.options.algorithm = x.1.1 ∙ under in
    let computed : c.in-Ok-result.computed ≡ integrity_under c.args.target.options.algorithm x.0 = rw same at (c.in-Ok-result.ensures.ok x.0 x.1.0) in
    let ran = rw (c.into_commit-commit.ensures.commit x.0 computed x.2, c.into_commit-commit.ensures.path, ← c.stored.ensures) at c.link_from.ensures.ran in
    ran_through _ _ _ _ _ _ x.3 ran

pub returns-in-Err-result-clause-ran : goal.returns-in-Err-result-clause-ran
returns-in-Err-result-clause-ran g c =
    λ bytes holds under is.
    let x = c.in-Ok.ensures c.args.target bytes holds is in
    lost_so _ _ c.in-Err-result.error _ _ x.3 c.in-Err-result.ensures.err
