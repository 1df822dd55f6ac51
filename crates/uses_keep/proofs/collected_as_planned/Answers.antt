use Rattle.std.proofs.Common.{◌≡◌, List, [], ◌∷◌, Some, ℕ, ap, map, refl, subst, ◌∙◌}
use Rattle.cacache_core.specs.declared.integrity.digest.Hash.{Hash}
use Rattle.cacache_jobs.specs.JobStates.{site_of}
use Rattle.cacache_keep.specs.{declared.{checking.OddLines.TheVariants.{Refuse}, planning.Unused.{Unused}}, Keeping.{Collects}, Planning.{Sized, sized_of}}
use Rattle.uses_keep.proofs.collected_as_planned.Goals as goal

addresses : (unused : List Unused) → map (λ (s : Sized). s.0) (map sized_of unused) ≡ map (λ u. u.address) unused
addresses [] = refl
addresses (u ∷ unused) = ap (λ (l : List (List Hash)). u.address ∷ l) (addresses unused)

pub returns : goal.returns
returns g c = λ home is.
    let cache = c.args.cache.now in
    let site = site_of cache c.args.env.now.base 0 in
    let old = c.args.env.now.store in
    let mid = c.plan.new.env.store in
    let new = c.collect.new.env.store in
    let laws = c.keep_laws.ensures in
    let plans = c.in_ok-planned.ensures.plans.0 in
    let collects = subst (λ (b : List ℕ). Collects (site_of cache b 0) c.in_ok-collected.collected.kept c.in_ok-collected.collected.dropped.items (Some mid) (Some new)) c.plan.ensures.base (Refuse, c.in_ok-collected.ensures.collects) in
    let leaves = laws.plans_leave site home _ _ old mid is laws.logged plans in
    let told = laws.plans site home _ _ _ _ old mid mid new is laws.logged c.keep_laws-2.ensures.logged leaves plans collects in
    told.1 ∙ addresses c.in_ok-planned.planned.unused.items
