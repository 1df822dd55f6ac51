use Rattle.std.proofs.Common.{◌≡◌, ◌∙◌, inl, ap, refl, rules, string_bytes, subst}
use Rattle.cacache_core.specs.declared.errors.Error.TheVariants.{OutOfMemory}
use Rattle.cacache_store.specs.declared.store.step.Step.TheVariants as steps
use Rattle.cacache_entry.specs.View.{found_view}
use Rattle.cacache_calls.specs.{SingleSteps.{FailsAt}, Steps.{bucket_path}}
use Rattle.cacache_keep.{specs.Parting.{StopsUnlinkingKey}, proofs.Stopped.{error_as}}
use Rattle.cacache_keep.proofs.parting.unlink.Goals as goal

pub returns-in_err-path-clause-stops : goal.returns-in_err-path-clause-stops
returns-in_err-path-clause-stops g c =
    let log = g.S.Store.log c.args.store.now in
    error_as (λ x. StopsUnlinkingKey c.args.durable c.args.cache.now (found_view c.args.entry.now) x log log) c.from_residual.result OutOfMemory c.from_residual.ensures.1 (inl (inl refl))

pub returns-in_err-bytes-clause-stops : goal.returns-in_err-bytes-clause-stops
returns-in_err-bytes-clause-stops g c =
    let old = g.S.Store.log c.args.store.now in
    let read = g.S.Store.log c.read.new.store in
    let e = c.in_err-bytes.field-0.0 in
    let key : c.as_str.result.now ≡ string_bytes c.args.entry.now.key = search rules in
    let place = c.in_ok-path.ensures ∙ ap (bucket_path c.args.cache.now) key in
    error_as (λ x. StopsUnlinkingKey c.args.durable c.args.cache.now (found_view c.args.entry.now) x old read) c.from_residual-in_err-bytes.result e c.from_residual-in_err-bytes.ensures.1
    (inl (subst (λ p. FailsAt (steps.ReadAll p) e old read) place c.in_err-bytes.ensures.stops))
