use Rattle.std.{proofs.Common.{◌≡◌, ◌++◌, ℕ, List, false, map, subst}, specs.List.{filter}}
use Rattle.cacache_core.specs.{declared.errors.Error.TheVariants.{OutOfMemory}, Paths.{join}}
use Rattle.cacache_store.specs.declared.store.step.Step.TheVariants as steps
use Rattle.cacache_calls.specs.SingleSteps.{FailsAt}
use Rattle.cacache_keep.specs.{Reading.{is_gone}, Sweeping.{ListsFolder}, Buckets.{StopsParts, belongs}}
use Rattle.cacache_keep.proofs.{Indexes.IndexParts.{lost_listed, next_unlisted, one_listed}, Stopped.{error_as}}
use Rattle.cacache_keep.proofs.buckets.parts_below.Goals as goal

pub returns-in_err-names-clause-stops : goal.returns-in_err-names-clause-stops
returns-in_err-names-clause-stops g c =
    let folders = c.args.folders.now in
    let old = g.S.Store.log c.args.store.now in
    let mid = g.S.Store.log c.loop-folder.store in
    let new = g.S.Store.log c.names_in.new.store in
    let e = c.in_err-names.field-0.0 in
    let stop = subst (λ (p : List ℕ). (is_gone e ≡ false) × FailsAt (steps.ReadDir p) e mid new) c.as_str.ensures.same c.in_err-names.ensures.stops in
    error_as (λ x. StopsParts folders x old new) c.from_residual.result e c.from_residual.ensures.1
    (next_unlisted c.args.last folders c.loop-folder.paths.items c.loop-folder.folder-index c.folder-item.result e old mid new c.loop-folder-test.true c.folder-item.is c.loop-folder.invariant stop)

pub returns-in_err-push_parts-clause-stops : goal.returns-in_err-push_parts-clause-stops
returns-in_err-push_parts-clause-stops g c =
    let folders = c.args.folders.now in
    let old = g.S.Store.log c.args.store.now in
    let mid = g.S.Store.log c.loop-folder.store in
    let new = g.S.Store.log c.names_in.new.store in
    let names = c.in_ok-names.names.items in
    let lists = subst (λ (p : List ℕ). ListsFolder p names mid new) c.as_str.ensures.same c.in_ok-names.ensures.lists in
    error_as (λ x. StopsParts folders x old new) c.from_residual-in_err-push_parts.result OutOfMemory c.from_residual-in_err-push_parts.ensures.1
    (lost_listed c.args.last folders c.loop-folder.paths.items c.loop-folder.folder-index c.folder-item.result names old mid new c.loop-folder-test.true c.folder-item.is c.loop-folder.invariant lists)

pub loop-folder-preserved : goal.loop-folder-preserved
loop-folder-preserved g c =
    let folders = c.args.folders.now in
    let old = g.S.Store.log c.args.store.now in
    let mid = g.S.Store.log c.loop-folder.store in
    let new = g.S.Store.log c.names_in.new.store in
    let names = c.in_ok-names.names.items in
    let lists = subst (λ (p : List ℕ). ListsFolder p names mid new) c.as_str.ensures.same c.in_ok-names.ensures.lists in
    let grows = subst (λ (p : List ℕ). c.push_parts.new.paths.items ≡ c.loop-folder.paths.items ++ map (λ n. join p n.name) (filter (belongs c.args.last) names)) c.as_str-in-loop-folder.ensures.same c.in_ok-push_parts.ensures in
    one_listed c.args.last folders c.loop-folder.paths.items c.push_parts.new.paths.items c.loop-folder.folder-index c.folder-item.result names old mid new c.loop-folder-test.true c.folder-item.is c.loop-folder.invariant lists grows
