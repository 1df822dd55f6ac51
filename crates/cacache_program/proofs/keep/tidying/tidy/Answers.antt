-- The first failed, or the second came after it.
use Rattle.std.proofs.Common.{inl, inr}
use Rattle.cacache_program.proofs.keep.tidying.tidy.Goals as goal

pub returns-then-status-ne0-clause-does : goal.returns-then-status-ne0-clause-does
returns-then-status-ne0-clause-does g c = inl (c.if-status-ne0.true, c.sweep_and_print-status.ensures.does)

pub returns-clause-does : goal.returns-clause-does
returns-clause-does g c =
    inr (c.sweep_and_print-status.new.env, g.W.Write.contents c.sweep_and_print-status.new.output, rw c.if-status-ne0.false at c.sweep_and_print-status.ensures.does, c.trim.ensures.does)
