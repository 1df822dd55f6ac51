use Rattle.std.proofs.Common.{ℕ, List, inl, inr, subst}
use Rattle.cacache_store.specs.declared.store.answer.Answer.TheVariants as answers
use Rattle.cacache_store.specs.declared.store.step.Step.TheVariants as steps
use Rattle.cacache_calls.specs.SingleSteps.{Does, FailsAt}
use Rattle.cacache_keep.proofs.Collections.Sweeps.{told_size, refused_fails, removal_refused, size_refused}
use Rattle.cacache_keep.proofs.sweeping.remove_sized.Goals as goal

pub returns-in-Err-clause-stops : goal.returns-in-Err-clause-stops
returns-in-Err-clause-stops g c =
    let old = g.S.Store.log c.args.store.now in
    let new = g.S.Store.log c.step.new.self in
    let p = c.in_ok-clone.field-0 in
    let e = c.refused.result in
    let fails = refused_fails (steps.Size p) _ c.in-Err.refusal e old new (size_refused p _ c.in-Err.refusal c.in-Err.ensures c.step.ensures.fits) c.step.ensures.logged c.refused.ensures in
    inl (subst (λ (q : List ℕ). FailsAt (steps.Size q) e old new) c.in_ok-clone.ensures.cases fails)

pub returns-in-Err-done_of-clause-stops : goal.returns-in-Err-done_of-clause-stops
returns-in-Err-done_of-clause-stops g c =
    let old = g.S.Store.log c.args.store.now in
    let mid = g.S.Store.log c.step.new.self in
    let new = g.S.Store.log c.step-2.new.self in
    let p = c.in_ok-clone.field-0 in
    let q = c.in_ok-clone-2.field-0 in
    let size = c.in-Ok.size in
    let e = c.refused-in-Err-done_of.result in
    let told = told_size p _ size old mid c.in-Ok.ensures c.step.ensures.logged in
    let fails = refused_fails (steps.RemoveFile q) _ c.in-Err-done_of.refusal e mid new (removal_refused q _ c.in-Err-done_of.refusal c.in-Err-done_of.ensures c.step-2.ensures.fits) c.step-2.ensures.logged c.refused-in-Err-done_of.ensures in
    inr (
      size,
      mid,
      subst (λ (x : List ℕ). Does (steps.Size x) (answers.Length size) old mid) c.in_ok-clone.ensures.cases told,
      subst (λ (x : List ℕ). FailsAt (steps.RemoveFile x) e mid new) c.in_ok-clone-2.ensures.cases fails,
    )
