use Rattle.std.proofs.Common.{◌∙◌, sym, ap}
use Rattle.cacache_disk.{specs.{declared.node.Node.TheVariants.{File}, Tree.{cut}}, proofs.PutNodes.{cut-put_apart, put-cut_same, eq-false, eq-true}}
use Rattle.cacache_disk.proofs.nodes.Nodes.moved.Goals as goal

pub returns-then-not-stays-clause-ok : goal.returns-then-not-stays-clause-ok
returns-then-not-stays-clause-ok c =
    c.cut.ensures
    ∙ ap (λ t. cut t c.args.from.now) c.in_ok-put.ensures.ok
    ∙ cut-put_apart c.args.self.now c.args.to c.args.from.now (File c.args.bytes) (eq-false c.args.to c.args.from.now (sym c.if-not-stays.true ∙ c.eq-stays.ensures))

pub returns-else-not-stays-clause-ok : goal.returns-else-not-stays-clause-ok
returns-else-not-stays-clause-ok c =
    c.in_ok-put.ensures.ok
    ∙ put-cut_same c.args.self.now c.args.to c.args.from.now (File c.args.bytes) (eq-true c.args.to c.args.from.now (sym c.if-not-stays.false ∙ c.eq-stays.ensures))
