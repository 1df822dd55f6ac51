use Rattle.rows_polled.proofs.wholes.driven.Given as goal

-- the future may be polled again
abbrev pub invariant-loop : goal.invariant-loop
invariant-loop g l = g.F.Future.can_poll l.future
