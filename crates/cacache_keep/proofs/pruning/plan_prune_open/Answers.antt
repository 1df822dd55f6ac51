use Rattle.std.{proofs.Common.{List, ap, inl, inr, map, subst, ◌∙◌}, specs.List.Sorted.{IsPermutation, IsSorted}}
use Rattle.cacache_core.specs.declared.errors.Error.TheVariants.{OutOfMemory}
use Rattle.cacache_jobs.specs.JobStates.{site_of}
use Rattle.cacache_keep.specs.{Limits.{Weight, age_cmp, entries_in, told_bytes, weight_of}, Pruning.{StopsPrunePlan}, Weighing.{Weighs}}
use Rattle.cacache_keep.proofs.{Stopped.{error_as}, Weights.{lost_last}}
use Rattle.cacache_keep.proofs.pruning.plan_prune_open.Goals as goal

pub returns-in_err-entries-clause-stops : goal.returns-in_err-entries-clause-stops
returns-in_err-entries-clause-stops g c =
    let base = c.args.env.now.base in
    error_as (λ x. StopsPrunePlan (site_of c.args.cache.now base 0) x (g.S.Store.log c.args.env.now.store) (g.S.Store.log c.read_index.new.store)) c.from_residual.result c.in_err-entries.field-0.0 c.from_residual.ensures.1 (inl (c.in_err-entries.ensures.stops base))

pub returns-in_err-weighed-clause-stops : goal.returns-in_err-weighed-clause-stops
returns-in_err-weighed-clause-stops g c =
    let base = c.args.env.now.base in
    let log = g.S.Store.log in
    let index = c.in_ok-entries.field-0 in
    let e = c.in_err-weighed.field-0.0 in
    let stop = c.in_err-weighed.ensures.stops in
    error_as (λ x. StopsPrunePlan (site_of c.args.cache.now base 0) x (log c.args.env.now.store) (log c.weigh_all.new.store)) c.from_residual-in_err-weighed.result e c.from_residual-in_err-weighed.ensures.1
    (inr (index.entries.items, stop.0, index.odd.items, log c.read_index.new.store, c.in_ok-entries.ensures.reads base, stop.1, stop.2))

pub returns-in_err-dropped-clause-stops : goal.returns-in_err-dropped-clause-stops
returns-in_err-dropped-clause-stops g c =
    let base = c.args.env.now.base in
    let log = g.S.Store.log in
    let index = c.in_ok-entries.field-0 in
    let weights = map weight_of c.in_ok-weighed.weighed.items in
    let listed = log c.read_index.new.store in
    let new = log c.weigh_all.new.store in
    error_as (λ x. StopsPrunePlan (site_of c.args.cache.now base 0) x (log c.args.env.now.store) new) c.from_residual-in_err-dropped.result OutOfMemory c.from_residual-in_err-dropped.ensures.1
    (inr (index.entries.items, entries_in weights, index.odd.items, listed, c.in_ok-entries.ensures.reads base, c.in_ok-weighed.ensures.each, lost_last c.args.cache.now weights listed new c.in_ok-weighed.ensures.weighs))

pub returns-clause-plans : goal.returns-clause-plans
returns-clause-plans g c =
    let log = g.S.Store.log in
    let index = c.in_ok-entries.field-0 in
    let w = c.in_ok-weighed.ensures in
    let it = c.in_ok-dropped.ensures.chooses in
    let listed = log c.read_index.new.store in
    let new = log c.weigh_all.new.store in (
      index.entries.items,
      it.dropped,
      it.kept,
      record {
        listed = listed;
        listing = c.in_ok-entries.ensures.reads c.args.env.now.base;
        weighing = subst (λ (l : List Weight). Weighs c.args.cache.now l listed new) it.split w.weighs;
        choice = record {
          each = subst (λ (l : List Weight). IsPermutation index.entries.items (entries_in l)) it.split w.each;
          order = subst (λ (l : List Weight). IsSorted age_cmp (entries_in l)) it.split w.order;
          most = it.most;
        };
      },
      it.gone,
      it.left,
      it.before ∙ ap told_bytes it.split,
      it.behind,
    )
