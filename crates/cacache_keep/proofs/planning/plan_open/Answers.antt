use Rattle.std.proofs.Common.{List, inl, subst, sym, ◌∙◌}
use Rattle.cacache_core.specs.declared.integrity.digest.Hash.{Hash}
use Rattle.cacache_jobs.specs.JobStates.{site_of}
use Rattle.cacache_keep.{specs.{Keeping.{ChoosesAs}, Planning.{StopsPlanning}}, proofs.{Collections.Sizes.{addresses_told}, Stopped.{error_as}}}
use Rattle.cacache_keep.proofs.planning.plan_open.Goals as goal

pub returns-clause-plans : goal.returns-clause-plans
returns-clause-plans g c =
    let site = site_of c.args.cache.now c.args.env.now.base 0 in
    let old = g.S.Store.log c.args.env.now.store in
    let chosen = g.S.Store.log c.choose.new.env.store in
    let it = c.in_ok-kept.field-0 in
    let same = addresses_told c.in_ok-unused.unused.items ∙ c.in_ok-unused.ensures.each in
    let found = subst (λ (l : List (List Hash)). ChoosesAs site it.kept l it.odd.items old chosen) (sym same) c.in_ok-kept.ensures.chooses in
    ((chosen, found.0, c.in_ok-unused.ensures.tells), found.1)

pub returns-in_err-kept-clause-stops : goal.returns-in_err-kept-clause-stops
returns-in_err-kept-clause-stops g c =
    let log = g.S.Store.log in
    error_as (λ x. StopsPlanning (site_of c.args.cache.now c.args.env.now.base 0) x (log c.args.env.now.store) (log c.choose.new.env.store)) c.from_residual.result c.in_err-kept.field-0.0 c.from_residual.ensures.1 (inl c.in_err-kept.ensures.stops)
