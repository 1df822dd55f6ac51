-- The step failed, or memory was refused.
use Rattle.std.proofs.Common.{ℕ, List, ◌∙◌, subst}
use Rattle.cacache_store.specs.declared.store.step.Step.TheVariants as steps
use Rattle.cacache_calls.specs.SingleSteps.{FailsAt}
use Rattle.cacache_sync.proofs.content.StepAnswers.{refused_fails}
use Rattle.cacache_program.proofs.Refused.{read_refused}
use Rattle.cacache_program.proofs.keep.collecting.read.Goals as goal

pub returns-clause-stops : goal.returns-clause-stops
returns-clause-stops g c =
    let old = g.S.Store.log c.args.env.now.store in
    let new = g.S.Store.log c.step.new.self in
    let p = c.in_ok-place.place in
    let e = c.refused.result in
    subst (λ (q : List ℕ). FailsAt (steps.ReadAll q) e old new) (c.in_ok-place.ensures.cases ∙ c.in_ok-path.ensures)
    (refused_fails (steps.ReadAll p) _ c.in-Err.refusal e old new (read_refused p _ c.in-Err.refusal c.in-Err.ensures c.step.ensures.fits) c.step.ensures.logged c.refused.ensures)
