use Rattle.std.{proofs.Common.{◌≡◌, ℕ, List, subst, ◌∙◌}, specs.Prelude.{IfOk}}
use Rattle.cacache_history.specs.Setup.{is_outside}
use Rattle.cacache_world.specs.WorldKept.{setup_of}
use Rattle.cacache_world.proofs.admitting.leads_outside.Goals as goal

pub returns : goal.returns
returns c =
    subst (λ path. IfOk c.is_outside.result (λ leads. (cache : List ℕ) → (callers : ℕ) → leads ≡ is_outside (setup_of cache c.args.outside.now callers) path))
    (c.as_str.ensures.same ∙ c.in_ok-path.ensures) c.is_outside.ensures
