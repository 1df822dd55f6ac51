use Rattle.std.{proofs.Common.{List, map, subst, sym}, specs.List.Sorted.{IsPermutation, IsSorted}}
use Rattle.cacache_core.specs.declared.errors.Error.TheVariants.{OutOfMemory}
use Rattle.cacache_entry.specs.{Bucket.{Found}, View.{found_view}}
use Rattle.cacache_keep.{specs.{Limits.{age_cmp}, Weighing.{StopsWeighing}}, proofs.{Asked.{value_so}, Stopped.{error_as, error_so}, Weights.{lost_first}}}
use Rattle.cacache_keep.proofs.pruning.weigh_all.Goals as goal

pub returns-in_err-all-clause-stops : goal.returns-in_err-all-clause-stops
returns-in_err-all-clause-stops g c =
    let log = g.S.Store.log c.args.store.now in
    let entries = c.args.entries.items in
    error_as (λ x. (sorted : List Found) × IsPermutation entries sorted × StopsWeighing c.args.cache.now sorted x log log) c.from_residual.result OutOfMemory c.from_residual.ensures.1 (lost_first c.args.cache.now entries log)

pub returns : goal.returns
returns g c =
    let old = g.S.Store.log c.args.store.now in
    let new = g.S.Store.log c.weigh.new.store in
    let sorted = map found_view c.sort.new.entries.items in
    let moved = subst (λ l. IsPermutation l sorted) c.in_ok-all.ensures c.sort.ensures.same in
    record {
      each = value_so c.weigh.result (λ all is. subst (IsPermutation c.args.entries.items) (sym is) moved) c.weigh.ensures.each;
      order = value_so c.weigh.result (λ all is. subst (IsSorted age_cmp) (sym is) c.sort.ensures.order) c.weigh.ensures.each;
      weighs = c.weigh.ensures.weighs;
      stops = error_so c.weigh.result (λ e stop. (sorted, moved, stop)) c.weigh.ensures.stops;
    }
