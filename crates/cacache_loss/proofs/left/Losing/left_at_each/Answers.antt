use Rattle.std.proofs.Common.{◌≡◌, ◌∙◌, ap, sym}
use Rattle.std.specs.FinMap as map
use Rattle.cacache_disk.specs.Tree.{Names, look, names_cmp, put}
use Rattle.cacache_loss.{specs.Running.{lost_of}, proofs.LeftNodes.{left_more, left_none}}
use Rattle.cacache_loss.proofs.left.Losing.left_at_each.Goals as goal

pub loop-i-init : goal.loop-i-init
loop-i-init c = λ q. ap (λ t. look t q) c.new-nodes.ensures ∙ map.get-empty names_cmp q

pub loop-i-preserved-in_default : goal.loop-i-preserved-in_default
loop-i-preserved-in_default c =
    left_none (lost_of c.args.self.now) c.loop-i.nodes c.args.paths.now c.loop-i.i c.index-paths-i.result c.loop-i-test.true c.index-paths-i.is
    (sym c.in_ok-node.ensures ∙ c.in_default.is) c.loop-i.invariant

pub loop-i-preserved : goal.loop-i-preserved
loop-i-preserved c = λ q.
    let path : c.in_ok-clone.field-0 ≡ c.index-paths-i.result = c.in_ok-clone.ensures.cases in
    ap (λ t. look t q) (c.in_ok-put.ensures.ok ∙ ap (λ (p : Names). put c.loop-i.nodes p c.in-Some.node) path)
    ∙ left_more (lost_of c.args.self.now) c.loop-i.nodes c.args.paths.now c.loop-i.i c.index-paths-i.result c.in-Some.node c.loop-i-test.true c.index-paths-i.is
    (sym c.in_ok-node.ensures ∙ c.in-Some.is) c.loop-i.invariant q
