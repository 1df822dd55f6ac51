use Rattle.std.proofs.Common.{inl, inr, refl, subst}
use Rattle.cacache_jobs.specs.JobStates.{site_of}
use Rattle.cacache_keep.{specs.{Checking.{Allows, RefusesOdd}, Repairing.{StopsRepairing}}, proofs.{Stopped.{error_so, error_as}, Asked.{value_so}}}
use Rattle.cacache_keep.proofs.repairing.repair_open.Goals as goal

pub returns-in_err-index-clause-stops : goal.returns-in_err-index-clause-stops
returns-in_err-index-clause-stops g c =
    let base = c.args.env.now.base in
    error_as (λ x. StopsRepairing c.args.odd (site_of c.args.cache.now base 0) x (g.S.Store.log c.args.env.now.store) (g.S.Store.log c.read_index.new.store)) c.from_residual.result c.in_err-index.field-0.0 c.from_residual.ensures.1 (inl (c.in_err-index.ensures.stops base))

pub returns-in_err-check-clause-stops : goal.returns-in_err-check-clause-stops
returns-in_err-check-clause-stops g c =
    let base = c.args.env.now.base in
    let listed = g.S.Store.log c.read_index.new.store in
    let index = c.in_ok-index.index in
    error_as (λ x. StopsRepairing c.args.odd (site_of c.args.cache.now base 0) x (g.S.Store.log c.args.env.now.store) listed) c.from_residual-in_err-check.result c.in_err-check.field-0.0 c.from_residual-in_err-check.ensures.1
    (inr (index.entries.items, index.odd.items, listed, c.in_ok-index.ensures.reads base, inl (subst (λ odd. RefusesOdd c.args.odd odd c.in_err-check.field-0.0) c.as_slice.ensures.value c.in_err-check.ensures.refuses, refl)))

pub returns-clause-repairs : goal.returns-clause-repairs
returns-clause-repairs g c =
    let base = c.args.env.now.base in
    let index = c.in_ok-index.index in
    value_so c.repair_from.result (λ r it. (index.entries.items, index.odd.items, g.S.Store.log c.read_index.new.store, c.in_ok-index.ensures.reads base, subst (Allows c.args.odd) c.as_slice.ensures.value c.in_ok-check.ensures.allows, it)) c.repair_from.ensures.repairs

pub returns-clause-stops : goal.returns-clause-stops
returns-clause-stops g c =
    let base = c.args.env.now.base in
    let index = c.in_ok-index.index in
    error_so c.repair_from.result (λ e it. inr (index.entries.items, index.odd.items, g.S.Store.log c.read_index.new.store, c.in_ok-index.ensures.reads base, inr (subst (Allows c.args.odd) c.as_slice.ensures.value c.in_ok-check.ensures.allows, it))) c.repair_from.ensures.stops
