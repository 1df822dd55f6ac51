-- The first failed, or the second came after it.
use Rattle.std.proofs.Common.{inl, inr}
use Rattle.cacache_program.proofs.keep.tidying.trim.Goals as goal

pub returns-then-status-ne0-clause-does : goal.returns-then-status-ne0-clause-does
returns-then-status-ne0-clause-does g c = inl (c.if-status-ne0.true, c.prune_if-status.ensures.does)

pub returns-clause-does : goal.returns-clause-does
returns-clause-does g c =
    inr (c.prune_if-status.new.env, g.W.Write.contents c.prune_if-status.new.output, rw c.if-status-ne0.false at c.prune_if-status.ensures.does, c.settle.ensures.does)
