-- With options if there are any.
use Rattle.std.proofs.Common.{◌≡◌, ◌∙◌, Bool, false, subst, sym, true}
use Rattle.cacache_program.specs.{Orders.{order_of}, WordCollect.{CollectsAs, is_plain}}
use Rattle.cacache_program.proofs.keep.collecting.collect_as.Goals as goal

pub returns-then-is_plain-clause-does : goal.returns-then-is_plain-clause-does
returns-then-is_plain-clause-does g c =
    let yes : is_plain (order_of c.args.order) ≡ true = sym c.is_plain.ensures ∙ c.if-is_plain.true in
    subst (λ (b : Bool). CollectsAs g.S.Store.log g.C.Clock.given b (order_of c.args.order) c.args.env.now c.collect_and_print.new.env (g.W.Write.contents c.args.output.now) (g.W.Write.contents c.collect_and_print.new.output) c.collect_and_print.result) (sym yes) c.collect_and_print.ensures.does

pub returns-clause-does : goal.returns-clause-does
returns-clause-does g c =
    let no : is_plain (order_of c.args.order) ≡ false = sym c.is_plain.ensures ∙ c.if-is_plain.false in
    subst (λ (b : Bool). CollectsAs g.S.Store.log g.C.Clock.given b (order_of c.args.order) c.args.env.now c.collect_by.new.env (g.W.Write.contents c.args.output.now) (g.W.Write.contents c.collect_by.new.output) c.collect_by.result) (sym no) c.collect_by.ensures.does
