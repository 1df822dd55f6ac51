use Rattle.std.proofs.Common.{◌≡◌, ℕ, List, false, subst, sym, ◌∙◌}
use Rattle.cacache_store.specs.declared.store.step.Step.TheVariants as steps
use Rattle.cacache_calls.specs.SingleSteps.{FailsAt}
use Rattle.cacache_keep.{specs.Reading.{is_gone}, proofs.Collections.Sweeps.{unlisted_so}}
use Rattle.cacache_keep.proofs.sweeping.names_in.Goals as goal

pub returns-else-says_gone-clause-stops : goal.returns-else-says_gone-clause-stops
returns-else-says_gone-clause-stops g c =
    let e = c.refused.result in
    subst (λ (p : List ℕ). (is_gone e ≡ false) × FailsAt (steps.ReadDir p) e (g.S.Store.log c.args.store.now) (g.S.Store.log c.step.new.self)) c.in_ok-path.ensures
    (unlisted_so c.in_ok-path.path _ c.in-Err.refusal e _ _ (sym c.says_gone.ensures ∙ c.if-says_gone.false) c.in-Err.ensures c.step.ensures.fits c.step.ensures.logged c.refused.ensures)
