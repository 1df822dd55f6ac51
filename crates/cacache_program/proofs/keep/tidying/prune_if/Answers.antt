-- The cache was pruned if there is a limit.
use Rattle.std.proofs.Common.{◌≡◌, ◌∙◌, Bool, false, refl, subst, sym, true}
use Rattle.cacache_program.specs.{Orders.{order_of}, WordTidy.{PrunesIf, is_limited}}
use Rattle.cacache_program.proofs.keep.tidying.prune_if.Goals as goal

pub returns-then-is_limited-clause-does : goal.returns-then-is_limited-clause-does
returns-then-is_limited-clause-does g c =
    let yes : is_limited (order_of c.args.order) ≡ true = sym c.is_limited.ensures ∙ c.if-is_limited.true in
    subst (λ (b : Bool). PrunesIf g.S.Store.log g.C.Clock.given b (order_of c.args.order) c.args.env.now c.prune_and_print.new.env (g.W.Write.contents c.args.output.now) (g.W.Write.contents c.prune_and_print.new.output) c.prune_and_print.result) (sym yes) c.prune_and_print.ensures.does

pub returns-clause-does : goal.returns-clause-does
returns-clause-does g c =
    let no : is_limited (order_of c.args.order) ≡ false = sym c.is_limited.ensures ∙ c.if-is_limited.false in
    subst (λ (b : Bool). PrunesIf g.S.Store.log g.C.Clock.given b (order_of c.args.order) c.args.env.now c.args.env.now (g.W.Write.contents c.args.output.now) (g.W.Write.contents c.args.output.now) 0) (sym no) (refl, refl, refl)
