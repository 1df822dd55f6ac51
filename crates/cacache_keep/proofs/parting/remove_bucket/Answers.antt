use Rattle.std.proofs.Common.{ℕ, List, inl, inr, subst}
use Rattle.cacache_store.specs.declared.store.answer.Answer.TheVariants as answers
use Rattle.cacache_store.specs.declared.store.step.Step.TheVariants as steps
use Rattle.cacache_calls.specs.SingleSteps.{Does, FailsAt}
use Rattle.cacache_keep.proofs.{Asked.{done_so}, Collections.{Fates.{is_removed}, Sweeps.{refused_fails, removal_refused}}, Stopped.{error_so}}
use Rattle.cacache_keep.proofs.parting.remove_bucket.Goals as goal

pub returns-in-Err-clause-stops : goal.returns-in-Err-clause-stops
returns-in-Err-clause-stops g c =
    let old = g.S.Store.log c.args.store.now in
    let new = g.S.Store.log c.step.new.self in
    let p = c.in_ok-place.place in
    let e = c.refused.result in
    inl (subst (λ (q : List ℕ). FailsAt (steps.RemoveFile q) e old new) c.in_ok-place.ensures.cases
    (refused_fails (steps.RemoveFile p) _ c.in-Err.refusal e old new (removal_refused p _ c.in-Err.refusal c.in-Err.ensures c.step.ensures.fits) c.step.ensures.logged c.refused.ensures))

pub returns-in-Ok-clause-removes : goal.returns-in-Ok-clause-removes
returns-in-Ok-clause-removes g c =
    let old = g.S.Store.log c.args.store.now in
    let cut = g.S.Store.log c.step.new.self in
    let does = subst (λ (p : List ℕ). Does (steps.RemoveFile p) answers.Done old cut) c.in_ok-place.ensures.cases (is_removed c.in_ok-place.place _ old cut c.in-Ok.ensures c.step.ensures.logged) in
    done_so c.secure.result (λ secures. (cut, does, secures)) c.secure.ensures.syncs

pub returns-in-Ok-clause-stops : goal.returns-in-Ok-clause-stops
returns-in-Ok-clause-stops g c =
    let old = g.S.Store.log c.args.store.now in
    let cut = g.S.Store.log c.step.new.self in
    let does = subst (λ (p : List ℕ). Does (steps.RemoveFile p) answers.Done old cut) c.in_ok-place.ensures.cases (is_removed c.in_ok-place.place _ old cut c.in-Ok.ensures c.step.ensures.logged) in
    error_so c.secure.result (λ e fails. inr (cut, does, fails)) c.secure.ensures.stops
