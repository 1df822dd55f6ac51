use Rattle.std.proofs.Common.{◌∙◌}
use Rattle.cacache_loss.proofs.LeftNodes.{left_ok}
use Rattle.cacache_loss.proofs.left.Losing.left.Goals as goal

pub returns : goal.returns
returns c = left_ok c.args.self.now c.as_slice.result.now c.left_at_each.result (c.as_slice.ensures.value ∙ c.in_ok-paths.ensures) c.left_at_each.ensures
