use Rattle.std.proofs.Common.{sym, ◌∙◌}
use Rattle.cacache_core.specs.Comparing.{same_hashes-Decides}
use Rattle.cacache_core.proofs.integrity.whole.IntegrityPartialEq.eq.Goals as goal

pub returns-clause-same : goal.returns-clause-same
returns-clause-same c =
    let decides = same_hashes-Decides c.self.inside.hashes.items c.other.inside.hashes.items in
    let told = c.eq.ensures in
    rw (← c.self.view_is, ← c.other.view_is) (λ e. decides.0 (sym told ∙ e), λ e. told ∙ decides.1 e)
