use Rattle.std.proofs.Common.{inl, inr, map, refl, rules, subst, ◌∙◌}
use Rattle.cacache_jobs.specs.JobStates.{site_of}
use Rattle.cacache_keep.specs.{declared.checking.OddLines.TheVariants.{Refuse}, Calls.{MadeCalls, StopsRemoving, removal}, Checking.{Allows, RefusesOdd}}
use Rattle.cacache_keep.proofs.Stopped.{at_base, error_as}
use Rattle.cacache_keep.proofs.collecting.collect_open.Goals as goal

pub returns-in_err-chosen-clause-stops : goal.returns-in_err-chosen-clause-stops
returns-in_err-chosen-clause-stops g c =
    error_as _ _ _ c.from_residual.ensures.1 (inl c.in_err-chosen.ensures.stops)

pub returns-in_err-check-clause-stops : goal.returns-in_err-check-clause-stops
returns-in_err-check-clause-stops g c =
    let e = c.in_err-check.field-0.0 in
    let found = c.in_ok-chosen.ensures.chooses in
    let refuses = subst (λ odd. RefusesOdd Refuse odd e) (c.as_slice.ensures.value ∙ found.1) c.in_err-check.ensures.refuses in
    error_as _ _ _ c.from_residual-in_err-check.ensures.1
    (inr (_, _, g.S.Store.log c.choose.new.env.store, found.0, inl (refuses, refl)))

pub returns-in_err-remove_each-clause-stops : goal.returns-in_err-remove_each-clause-stops
returns-in_err-remove_each-clause-stops g c =
    let cache = c.args.cache.now in
    let base = c.args.env.now.base in
    let log = g.S.Store.log in
    let chosen = log c.choose.new.env.store in
    let new = log c.remove_each.new.env.store in
    let e = c.in_err-remove_each.field-0.0 in
    let found = c.in_ok-chosen.ensures.chooses in
    let dropped = c.in_ok-chosen.chosen.dropped.items in
    let allows = subst (Allows Refuse) (c.as_slice.ensures.value ∙ found.1) c.in_ok-check.ensures.allows in
    let stop : StopsRemoving (site_of cache c.choose.new.env.base 0) dropped e chosen new = search (rules, c.in_err-remove_each.ensures.stops) in
    let stops = at_base (λ s. StopsRemoving s dropped e chosen new) cache base c.choose.new.env.base c.choose.ensures.rest.2 stop in
    error_as _ _ _ c.from_residual-in_err-remove_each.ensures.1
    (inr (_, dropped, chosen, found.0, inr (allows, stops)))

pub returns-clause-collects : goal.returns-clause-collects
returns-clause-collects g c =
    let cache = c.args.cache.now in
    let base = c.args.env.now.base in
    let log = g.S.Store.log in
    let chosen = log c.choose.new.env.store in
    let new = log c.remove_each.new.env.store in
    let found = c.in_ok-chosen.ensures.chooses in
    let dropped = c.in_ok-chosen.chosen.dropped.items in
    let removals : MadeCalls (site_of cache c.choose.new.env.base 0) (map removal dropped) chosen new = search (rules, c.in_ok-remove_each.ensures.removes) in
    let removing = at_base (λ s. MadeCalls s (map removal dropped) chosen new) cache base c.choose.new.env.base c.choose.ensures.rest.2 removals in
    ((chosen, found.0, removing), subst (Allows Refuse) (c.as_slice.ensures.value ∙ found.1) c.in_ok-check.ensures.allows)
