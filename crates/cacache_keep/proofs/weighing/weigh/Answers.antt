use Rattle.std.proofs.Common.{◌≡◌, ◌∙◌, ◌∷◌, ◌++◌, [], ℕ, List, false, rules, ap, map, refl, subst, sym}
use Rattle.cacache_core.specs.declared.errors.Error.TheVariants.{OutOfMemory}
use Rattle.cacache_entry.specs.View.{found_view}
use Rattle.cacache_keep.specs.{declared.weighing.Weighed.{Weighed}, Limits.{Weight, weight_of}, Weighing.{HasPaths, StopsWeighing, Weighs, has_path, in_line, lies_at}}
use Rattle.cacache_keep.proofs.{Stopped.{error_as}, Weights.{in_line_more, lost_weighing, next_unweighed, none_weighed, one_weighed, WeighedTo}}
use Rattle.cacache_keep.proofs.weighing.weigh.Goals as goal

pub loop-entry-init : goal.loop-entry-init
loop-entry-init g c =
    let cache = c.args.cache.now in
    let entries = c.args.entries.items in
    let log = g.S.Store.log c.args.store.now in
    let none : c.new-weighed.result.items ≡ [] = search rules in
    let empty : (path : List ℕ) → has_path c.new-seen.result path ≡ false = λ path. search (rules, c.new-seen.ensures.empty) in
    (subst (λ (met : List Weighed). WeighedTo cache entries entries met log log) (sym none) (none_weighed cache entries log), λ path. empty path ∙ ap (λ (met : List Weighed). lies_at cache (in_line met) path) (sym none))

pub loop-entry-preserved : goal.loop-entry-preserved
loop-entry-preserved g c =
    let i = c.loop-entry.invariant in
    let w : Weighed = record { entry = c.in-Some.entry; bytes = c.in_ok-bytes.bytes } in
    let met = c.loop-entry.weighed.items in
    let so = c.in_ok-bytes.ensures.weighs (in_line met) i.1 in
    let line : in_line c.push.new.self.items ≡ (found_view c.in-Some.entry, c.in_ok-bytes.bytes) ∷ in_line met = ap in_line c.in_ok-push.ensures.items ∙ in_line_more met w in (
      one_weighed c.args.cache.now c.args.entries.items c.loop-entry.rest.items c.pop.new.self.items met c.push.new.self.items w (g.S.Store.log c.args.store.now) (g.S.Store.log c.loop-entry.store) (g.S.Store.log c.weight.new.store) c.in-Some.ensures.items c.in_ok-push.ensures.items i.0 so.0,
      subst (λ (l : List Weight). HasPaths c.args.cache.now l c.weight.new.seen) (sym line) so.1,
    )

pub returns-in_err-bytes-clause-stops : goal.returns-in_err-bytes-clause-stops
returns-in_err-bytes-clause-stops g c =
    let i = c.loop-entry.invariant in
    let cache = c.args.cache.now in
    let entries = c.args.entries.items in
    let old = g.S.Store.log c.args.store.now in
    let mid = g.S.Store.log c.loop-entry.store in
    let new = g.S.Store.log c.weight.new.store in
    let e = c.in_err-bytes.field-0.0 in
    error_as (λ x. StopsWeighing cache (map found_view entries) x old new) c.from_residual.result e c.from_residual.ensures.1
    (next_unweighed cache entries c.loop-entry.rest.items c.pop.new.self.items c.loop-entry.weighed.items c.in-Some.entry e old mid new c.in-Some.ensures.items i.0 c.in_err-bytes.ensures.stops)

pub returns-in_err-push-clause-stops : goal.returns-in_err-push-clause-stops
returns-in_err-push-clause-stops g c =
    let i = c.loop-entry.invariant in
    let cache = c.args.cache.now in
    let entries = c.args.entries.items in
    let old = g.S.Store.log c.args.store.now in
    let mid = g.S.Store.log c.loop-entry.store in
    let new = g.S.Store.log c.weight.new.store in
    let w : Weighed = record { entry = c.in-Some.entry; bytes = c.in_ok-bytes.bytes } in
    let met = c.loop-entry.weighed.items in
    let so = one_weighed cache entries c.loop-entry.rest.items c.pop.new.self.items met (met ++ w ∷ []) w old mid new c.in-Some.ensures.items refl i.0 (c.in_ok-bytes.ensures.weighs (in_line met) i.1).0 in
    error_as (λ x. StopsWeighing cache (map found_view entries) x old new) c.from_residual-in_err-push.result OutOfMemory c.from_residual-in_err-push.ensures.1 (lost_weighing cache entries c.pop.new.self.items (met ++ w ∷ []) old new so)

pub returns-clause-weighs : goal.returns-clause-weighs
returns-clause-weighs g c =
    let i = c.loop-entry.invariant in
    subst (λ l. Weighs c.args.cache.now (map weight_of l) (g.S.Store.log c.args.store.now) (g.S.Store.log c.loop-entry.store)) (sym c.reverse.ensures.items) i.0.weighs
