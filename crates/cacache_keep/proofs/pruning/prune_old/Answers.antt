use Rattle.std.proofs.Common.{◌≡◌, List, ℕ, ap, inl, inr, map, refl, subst, ◌∙◌}
use Rattle.cacache_calls.specs.State.{Site}
use Rattle.cacache_entry.specs.{Bucket.{Found}, View.{found_view}}
use Rattle.cacache_jobs.specs.JobStates.{site_of}
use Rattle.cacache_keep.specs.{declared.checking.OddLines.TheVariants.{Refuse}, Checking.{Allows, RefusesOdd}, Confirming.{Confirms, StopsConfirming}, Collecting.{EndsCollecting, told_by}, Limits.{entries_in}, Parting.{Parts, StopsParting}, Pruning.{PlansPrune}}
use Rattle.cacache_keep.proofs.Stopped.{at_base, error_as}
use Rattle.cacache_keep.proofs.pruning.prune_old.Goals as goal

-- what holds of entries at a base folder holds of the same ones at the same one
same_at : (P : Site → List Found → Type 0) (cache base before : List ℕ) (entries these : List Found) → before ≡ base → these ≡ entries → P (site_of cache before 0) these → P (site_of cache base 0) entries
same_at P cache base before entries these same is p = at_base (λ s. P s entries) cache base before same (subst (P (site_of cache before 0)) is p)

pub returns-in_err-plan-clause-stops : goal.returns-in_err-plan-clause-stops
returns-in_err-plan-clause-stops g c = error_as _ _ _ c.from_residual.ensures.1 (inl c.in_err-plan.ensures.stops)

pub returns-in_err-check-clause-stops : goal.returns-in_err-check-clause-stops
returns-in_err-check-clause-stops g c =
    let it = c.in_ok-plan.ensures.plans in
    let refuses = subst (λ odd. RefusesOdd Refuse odd c.in_err-check.field-0.0) c.as_slice.ensures.value c.in_err-check.ensures.refuses in
    error_as _ _ _ c.from_residual-in_err-check.ensures.1
    (inr (it.0, it.1, it.2, c.in_ok-plan.plan.odd.items, g.S.Store.log c.plan_prune_open.new.env.store, it.3, inl (refuses, refl)))

pub returns-in_err-confirm-clause-stops : goal.returns-in_err-confirm-clause-stops
returns-in_err-confirm-clause-stops g c =
    let it = c.in_ok-plan.ensures.plans in
    let e = c.in_err-confirm.field-0.0 in
    let listed = g.S.Store.log c.plan_prune_open.new.env.store in
    let none = subst (Allows Refuse) c.as_slice.ensures.value c.in_ok-check.ensures.allows in
    let stops = same_at (λ s l. StopsConfirming s l e listed (g.S.Store.log c.confirm.new.env.store)) c.args.cache.now c.args.env.now.base c.plan_prune_open.new.env.base (entries_in it.1) _
    c.plan_prune_open.ensures.rest.2 (ap (map found_view) c.as_slice-2.ensures.value ∙ it.4) c.in_err-confirm.ensures.stops in
    error_as _ _ _ c.from_residual-in_err-confirm.ensures.1
    (inr (it.0, it.1, it.2, c.in_ok-plan.plan.odd.items, listed, it.3, inr (none, inl stops)))

pub returns-in_err-dropped-clause-stops : goal.returns-in_err-dropped-clause-stops
returns-in_err-dropped-clause-stops g c =
    let o = c.args.opts in
    let cache = c.args.cache.now in
    let base = c.args.env.now.base in
    let log = g.S.Store.log in
    let it = c.in_ok-plan.ensures.plans in
    let e = c.in_err-dropped.field-0.0 in
    let listed = log c.plan_prune_open.new.env.store in
    let confirmed = log c.confirm.new.env.store in
    let none = subst (Allows Refuse) c.as_slice.ensures.value c.in_ok-check.ensures.allows in
    let leads = same_at (λ s l. Confirms s l listed confirmed) cache base c.plan_prune_open.new.env.base (entries_in it.1) _ c.plan_prune_open.ensures.rest.2 (ap (map found_view) c.as_slice-2.ensures.value ∙ it.4) c.in_ok-confirm.ensures.confirms in
    let stops = same_at (λ s l. StopsParting o.durable s l e confirmed (log c.part.new.env.store)) cache base c.confirm.new.env.base (entries_in it.1) _ (c.confirm.ensures.rest.2 ∙ c.plan_prune_open.ensures.rest.2) it.4 c.in_err-dropped.ensures.stops in
    error_as _ _ _ c.from_residual-in_err-dropped.ensures.1
    (inr (it.0, it.1, it.2, c.in_ok-plan.plan.odd.items, listed, it.3, inr (none, inr (confirmed, leads, stops))))

pub returns-clause-prunes : goal.returns-clause-prunes
returns-clause-prunes g c =
    let o = c.args.opts in
    let cache = c.args.cache.now in
    let base = c.args.env.now.base in
    let log = g.S.Store.log in
    let it = c.in_ok-plan.ensures.plans in
    let listed = log c.plan_prune_open.new.env.store in
    let confirmed = log c.confirm.new.env.store in
    let settled = log c.part.new.env.store in
    let none = subst (Allows Refuse) c.as_slice.ensures.value c.in_ok-check.ensures.allows in
    let same = c.confirm.ensures.rest.2 ∙ c.plan_prune_open.ensures.rest.2 in
    let gone = map found_view c.in_ok-dropped.field-0.dropped.items in
    let left = map found_view c.in_ok-dropped.field-0.left.items in
    let ends = c.collect_old-collected in (
      it.0,
      it.1,
      it.2,
      record {
        listed = listed;
        planning = subst (λ odd. PlansPrune c.args.limits (site_of cache base 0) it.0 it.1 it.2 odd (log c.args.env.now.store) listed) none it.3;
        confirmed = confirmed;
        confirms = same_at (λ s l. Confirms s l listed confirmed) cache base c.plan_prune_open.new.env.base (entries_in it.1) _ c.plan_prune_open.ensures.rest.2 (ap (map found_view) c.as_slice-2.ensures.value ∙ it.4) c.in_ok-confirm.ensures.confirms;
        settled = settled;
        parts = same_at (λ s l. Parts o.durable s l gone left confirmed settled) cache base c.confirm.new.env.base (entries_in it.1) _ same it.4 c.in_ok-dropped.ensures.parts;
        collects = at_base (λ s. EndsCollecting (told_by o.odd o.keep.now o.durable) c.args.limit s ends.result settled (log ends.new.env.store)) cache base c.part.new.env.base (c.part.ensures.base ∙ same) (ends.ensures.collects, ends.ensures.stops);
      },
      it.6,
      it.7,
    )
