use Rattle.std.proofs.Common.{◌+◌, ℕ, List, [], ◌∷◌, ap, subst, sym, ◌∙◌}
use Rattle.cacache_core.specs.{declared.errors.Error.TheVariants.{OutOfMemory}, Paths.{join}}
use Rattle.cacache_store.specs.declared.store.answer.Answer.TheVariants as answers
use Rattle.cacache_store.specs.declared.store.step.Step.TheVariants as steps
use Rattle.cacache_calls.specs.Runs.{Gains}
use Rattle.cacache_keep.{specs.Sweeping.{StopsRemoval, StopsSized}, proofs.{Collections.Sweeps.{RemovedTo, lost_before, next_kept, one_sized}, Stopped.{error_as}}}
use Rattle.cacache_keep.proofs.sweeping.remove_files.Goals as goal

pub returns-in_err-path-clause-stops : goal.returns-in_err-path-clause-stops
returns-in_err-path-clause-stops g c =
    let folder = c.args.folder.now in
    let files = c.args.files.now in
    let k = c.loop-file.file-index in
    let file = c.file-item.result in
    let old = g.S.Store.log c.args.store.now in
    let mid = g.S.Store.log c.loop-file.store in
    error_as (λ x. StopsSized folder files x old mid) c.from_residual.result OutOfMemory c.from_residual.ensures.1
    (lost_before folder files k c.loop-file.bytes file old mid c.loop-file-test.true c.file-item.is c.loop-file.invariant)

pub returns-in_err-remove_sized-clause-stops : goal.returns-in_err-remove_sized-clause-stops
returns-in_err-remove_sized-clause-stops g c =
    let folder = c.args.folder.now in
    let files = c.args.files.now in
    let k = c.loop-file.file-index in
    let file = c.file-item.result in
    let old = g.S.Store.log c.args.store.now in
    let mid = g.S.Store.log c.loop-file.store in
    let new = g.S.Store.log c.remove_sized.new.store in
    let e = c.in_err-remove_sized.field-0.0 in
    let at = c.in_ok-path.ensures ∙ ap (join folder) c.as_str.ensures.same in
    let stop = subst (λ (p : List ℕ). StopsRemoval p e mid new) at c.in_err-remove_sized.ensures.stops in
    error_as (λ x. StopsSized folder files x old new) c.from_residual-in_err-remove_sized.result e c.from_residual-in_err-remove_sized.ensures.1
    (next_kept folder files k c.loop-file.bytes file e old mid new c.loop-file-test.true c.file-item.is c.loop-file.invariant stop)

pub loop-file-preserved : goal.loop-file-preserved
loop-file-preserved g c =
    let folder = c.args.folder.now in
    let files = c.args.files.now in
    let k = c.loop-file.file-index in
    let file = c.file-item.result in
    let old = g.S.Store.log c.args.store.now in
    let mid = g.S.Store.log c.loop-file.store in
    let new = g.S.Store.log c.remove_sized.new.store in
    let size = c.in_ok-remove_sized.field-0 in
    let at = c.in_ok-path.ensures ∙ ap (join folder) c.as_str.ensures.same in
    let gains = subst (λ (p : List ℕ). Gains mid new ((steps.Size p, answers.Length size) ∷ (steps.RemoveFile p, answers.Done) ∷ [])) at c.in_ok-remove_sized.ensures.removes in
    subst (λ (b : ℕ). RemovedTo folder files (k + 1) b old new) (sym c.saturating_add-bytes.ensures) (one_sized folder files k c.loop-file.bytes size file old mid new c.loop-file-test.true c.file-item.is c.loop-file.invariant gains)
