use Rattle.std.proofs.Common.{◌∙◌, sym}
use Rattle.cacache_loss.proofs.LeftNodes.{home_empty, home_named}
use Rattle.cacache_loss.proofs.left.home.Goals as goal

pub returns-then-is_empty : goal.returns-then-is_empty
returns-then-is_empty c = rw c.top.ensures (home_empty c.args.cache.now (sym c.is_empty.ensures ∙ c.if-is_empty.true))

pub returns : goal.returns
returns c = rw (home_named c.args.cache.now (sym c.is_empty.ensures ∙ c.if-is_empty.false)) c.named.ensures
