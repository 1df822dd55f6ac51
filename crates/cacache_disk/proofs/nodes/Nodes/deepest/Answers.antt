use Rattle.std.proofs.Common.{arith, sym}
use Rattle.cacache_disk.proofs.Standing.{deepest_climbed}
use Rattle.cacache_disk.proofs.nodes.Nodes.deepest.Goals as goal

pub returns-in-Some-node : goal.returns-in-Some-node
returns-in-Some-node c =
    deepest_climbed c.args.self.now c.args.path.now c.loop-i.above c.pop.new.self c.loop-i.i _ c.in-Some-node.node.now (omega arith) (omega arith)
    c.loop-i.invariant.0 c.pop.ensures (sym c.in-Some-node.ensures) c.loop-i.invariant.1
