-- What is printed of a pruning and of its plan.
use Rattle.std.proofs.{Common.{◌≡◌, ℕ, List, ◌++◌, Option, length, map, subst, sym}, lemmas.List.{length-map}}
use Rattle.cacache_core.specs.declared.integrity.digest.Hash.{Hash}
use Rattle.cacache.specs.{Stores.{LogItem}, Calls.{Env}, Entries.{Found, found_view}}
use Rattle.cacache_jobs.specs.{Environment.{AsksMoment}, JobStates.{site_of}}
use Rattle.cacache_keep.specs.{declared.{limits.Limits.{Limits}, pruning.{PrunePlan.{PrunePlan}, Pruned.{Pruned}}}, Grace.{LimitedFirst}, Limits.{told_bytes}, Pruning.{PlansPrune, PlansPruneAs, PrunesAs, PrunesCache}}
use Rattle.cacache_program.specs.{KeepValues.{text_of_prune_plan, text_of_pruned}, Orders.{Order}, Output.{PutsOut, PutsOutWith}, WordCollect.{millis_in}, WordPrune.{PrintsPrunePlan, PrintsPruning, limits_at, prune_text, pruned_status, pruned_text, told_of}}

module _ {S C N : Type 0} (log : S → Option (List LogItem)) (bytes seconds : Option ℕ) (cache : List ℕ) (old new : Env S C N) (before after : Option (List ℕ)) (status : ℕ) where
  -- a plan of a pruning with the limits at a moment was told
  pub planned_told : (moments : C → Option (List ℕ)) (limits : Limits) (moment : ℕ) (p : PrunePlan) → AsksMoment moments old.clock new.clock moment → limits ≡ limits_at bytes seconds moment
      → PlansPruneAs limits (site_of cache old.base 0) p (log old.store) (log new.store) → PutsOut (text_of_prune_plan p) before after status → PrintsPrunePlan log moments bytes seconds cache old new before after status
  planned_told moments limits moment p asks same plans puts =
      let dropped = map found_view p.dropped.items in (
        moment,
        asks,
        plans.0,
        plans.1,
        plans.2,
        p.odd.items,
        subst (λ (l : Limits). PlansPrune l (site_of cache old.base 0) plans.0 plans.1 plans.2 p.odd.items (log old.store) (log new.store)) same plans.3,
        subst (λ (f : List Found). PutsOut (prune_text (told_bytes (plans.1 ++ plans.2)) (told_bytes plans.2) f p.odd.items) before after status) plans.4
            (subst (λ (n : ℕ). PutsOut (prune_text n (told_bytes plans.2) dropped p.odd.items) before after status) plans.6 (subst (λ (n : ℕ). PutsOut (prune_text p.bytes_before n dropped p.odd.items) before after status) plans.7 puts)),
      )

module _ {S C N : Type 0} (log : S → Option (List LogItem)) (moments : C → Option (List ℕ)) (o : Order) (roots : List (List Hash)) (old new : Env S C N) (before after : Option (List ℕ)) (status : ℕ) where
  -- so was a pruning
  pub pruned_told : (limits : Limits) (moment : ℕ) (asked : C) (limit : Option ℕ) (p : Pruned) (whole : ℕ) → limits ≡ limits_at o.size o.age moment → LimitedFirst moments (millis_in o.grace) asked limit → PrunesAs limits (told_of o roots) limit (site_of o.cache old.base 0) p (log old.store) (log new.store)
      → whole ≡ pruned_status (length p.left.items) p.collected → PutsOutWith whole (text_of_pruned p) before after status → PrintsPruning log moments o roots moment asked old new before after status
  pruned_told limits moment asked limit p whole same limited prunes is puts =
      let gone = map found_view p.dropped.items in
      let left = map found_view p.left.items in
      let counted = subst (λ (n : ℕ). PutsOutWith (pruned_status n p.collected) (text_of_pruned p) before after status) (sym (length-map p.left.items found_view)) (subst (λ (n : ℕ). PutsOutWith n (text_of_pruned p) before after status) is puts) in (
        limit,
        limited,
        prunes.0,
        prunes.1,
        prunes.2,
        gone,
        left,
        p.collected,
        subst (λ (l : Limits). PrunesCache l (told_of o roots) limit (site_of o.cache old.base 0) prunes.0 prunes.1 prunes.2 gone left p.collected (log old.store) (log new.store)) same prunes.3,
        subst (λ (n : ℕ). PutsOutWith (pruned_status (length left) p.collected) (pruned_text n (told_bytes prunes.2) gone left) before after status) prunes.4
            (subst (λ (n : ℕ). PutsOutWith (pruned_status (length left) p.collected) (pruned_text p.bytes_before n gone left) before after status) prunes.5 counted),
      )
