use Rattle.std.proofs.Common.{List, inl, inr, refl, rules, subst, ◌∙◌}
use Rattle.cacache_core.specs.declared.{errors.Error.TheVariants.{OutOfMemory}, integrity.digest.Hash.{Hash}}
use Rattle.cacache_keep.{specs.{Checking.{Allows, RefusesOdd}, Collecting.{Told}, Dropping.{DropsAll, StopsDropping}}, proofs.Stopped.{error_as}}
use Rattle.cacache_keep.proofs.collecting.collect_old.Goals as goal

pub returns-in_err-chosen-clause-stops : goal.returns-in_err-chosen-clause-stops
returns-in_err-chosen-clause-stops g c =
    error_as _ _ _ c.from_residual.ensures.1
    (inl c.in_err-chosen.ensures.stops)

pub returns-in_err-check-clause-stops : goal.returns-in_err-check-clause-stops
returns-in_err-check-clause-stops g c =
    let e = c.in_err-check.field-0.0 in
    let found = c.in_ok-chosen.ensures.chooses in
    let refuses = subst (λ odd. RefusesOdd c.args.opts.odd odd e) (c.as_slice.ensures.value ∙ found.1) c.in_err-check.ensures.refuses in
    error_as _ _ _ c.from_residual-in_err-check.ensures.1
    (inr (_, _, g.S.Store.log c.choose.new.env.store, found.0, inl (refuses, refl)))

pub returns-in_err-rest-clause-stops : goal.returns-in_err-rest-clause-stops
returns-in_err-rest-clause-stops g c =
    error_as _ _ OutOfMemory c.from_residual-in_err-rest.ensures.1
    (inr (_, _, g.S.Store.log c.choose.new.env.store, c.in_ok-chosen.ensures.chooses.0, inr (inl (refl, refl))))

pub returns-in_err-sync_index-clause-stops : goal.returns-in_err-sync_index-clause-stops
returns-in_err-sync_index-clause-stops g c =
    let chosen = g.S.Store.log c.choose.new.env.store in
    let found = c.in_ok-chosen.ensures.chooses in
    let allows = subst (Allows c.args.opts.odd) (c.as_slice.ensures.value ∙ found.1) c.in_ok-check.ensures.allows in
    error_as _ _ _ c.from_residual-in_err-sync_index.ensures.1
    (inr (_, _, chosen, found.0, inr (inr (c.in_ok-rest.rest.items, allows, c.in_ok-rest.ensures, inl c.in_err-sync_index.ensures.stops))))

pub returns-in_err-dropped-clause-stops : goal.returns-in_err-dropped-clause-stops
returns-in_err-dropped-clause-stops g c =
    let log = g.S.Store.log in
    let synced = log c.sync_index.new.store in
    let found = c.in_ok-chosen.ensures.chooses in
    let allows = subst (Allows c.args.opts.odd) (c.as_slice.ensures.value ∙ found.1) c.in_ok-check.ensures.allows in
    let stops = subst (λ (l : List (List Hash)). StopsDropping c.args.limit c.args.cache.now l c.in_err-dropped.field-0.0 synced (log c.drop_each.new.store)) c.as_slice-2.ensures.value c.in_err-dropped.ensures.stops in
    error_as _ _ _ c.from_residual-in_err-dropped.ensures.1
    (inr (_, _, log c.choose.new.env.store, found.0, inr (inr (c.in_ok-rest.rest.items, allows, c.in_ok-rest.ensures, inr (synced, c.in_ok-sync_index.ensures.syncs, stops)))))

pub returns-clause-collects : goal.returns-clause-collects
returns-clause-collects g c =
    let o = c.args.opts in
    let told : Told = record { odd = o.odd; roots = o.keep.now; durable = o.durable } in
    let log = g.S.Store.log in
    let chosen = log c.choose.new.env.store in
    let synced = log c.sync_index.new.store in
    let new = log c.drop_each.new.store in
    let found = c.in_ok-chosen.ensures.chooses in
    let allows = subst (Allows o.odd) (c.as_slice.ensures.value ∙ found.1) c.in_ok-check.ensures.allows in
    let t = c.in_ok-dropped.field-0 in
    record {
      live = c.in_ok-chosen.chosen.kept;
      unused = c.in_ok-chosen.chosen.dropped.items;
      chosen = chosen;
      choosing = found.0;
      allowed = allows;
      rest = c.in_ok-rest.rest.items;
      sparing = c.in_ok-rest.ensures;
      counted = search (rules, c.saturating_add-kept.ensures, c.saturating_sub.ensures);
      synced = synced;
      syncing = c.in_ok-sync_index.ensures.syncs;
      dropping = subst (λ (l : List (List Hash)). DropsAll c.args.limit c.args.cache.now l t synced new) c.as_slice-2.ensures.value c.in_ok-dropped.ensures.drops;
    }
