-- The word that was parsed did what it does.
use Rattle.std.proofs.Common.{subst, sym}
use Rattle.cacache_program.specs.{declared.keep.names.Word.{Word}, Doing.{DoesWord}, Orders.{order_of}}
use Rattle.cacache_program.proofs.keep.program.carry_out.Goals as goal

pub returns-in-Repair-clause-does : goal.returns-in-Repair-clause-does
returns-in-Repair-clause-does g c = rw c.in-Repair.is (rw c.odd_of.ensures at c.repair_and_print.ensures.does)

pub returns-in-Verify-clause-does : goal.returns-in-Verify-clause-does
returns-in-Verify-clause-does g c = rw c.in-Verify.is c.verify_as.ensures.does

pub returns-in-Plan-clause-does : goal.returns-in-Plan-clause-does
returns-in-Plan-clause-does g c = rw c.in-Plan.is c.plan_and_print.ensures.does

pub returns-in-Sweep-clause-does : goal.returns-in-Sweep-clause-does
returns-in-Sweep-clause-does g c = rw c.in-Sweep.is c.sweep_and_print.ensures.does

pub returns-in-Compact-clause-does : goal.returns-in-Compact-clause-does
returns-in-Compact-clause-does g c = rw c.in-Compact.is c.compact_and_print.ensures.does

pub returns-in-Collect-clause-does : goal.returns-in-Collect-clause-does
returns-in-Collect-clause-does g c =
    subst (λ (w : Word). DoesWord g.S.Store.log g.C.Clock.given w (order_of c.args.order) c.args.env.now c.collect_as.new.env (g.W.Write.contents c.args.output.now) (g.W.Write.contents c.collect_as.new.output) c.collect_as.result) (sym c.in-Collect.is) c.collect_as.ensures.does

pub returns-in-Prune-clause-does : goal.returns-in-Prune-clause-does
returns-in-Prune-clause-does g c =
    subst (λ (w : Word). DoesWord g.S.Store.log g.C.Clock.given w (order_of c.args.order) c.args.env.now c.prune_and_print.new.env (g.W.Write.contents c.args.output.now) (g.W.Write.contents c.prune_and_print.new.output) c.prune_and_print.result) (sym c.in-Prune.is) c.prune_and_print.ensures.does

pub returns-in-PlanPrune-clause-does : goal.returns-in-PlanPrune-clause-does
returns-in-PlanPrune-clause-does g c = rw c.in-PlanPrune.is c.plan_prune_and_print.ensures.does

pub returns-in-Touch-clause-does : goal.returns-in-Touch-clause-does
returns-in-Touch-clause-does g c = rw c.in-Touch.is c.touch_and_print.ensures.does

pub returns-in-Tidy-clause-does : goal.returns-in-Tidy-clause-does
returns-in-Tidy-clause-does g c =
    subst (λ (w : Word). DoesWord g.S.Store.log g.C.Clock.given w (order_of c.args.order) c.args.env.now c.tidy.new.env (g.W.Write.contents c.args.output.now) (g.W.Write.contents c.tidy.new.output) c.tidy.result) (sym c.in-Tidy.is) c.tidy.ensures.does
