use Rattle.std.{proofs.Common.{◌≡◌, ◌-◌, length, take}, specs.Prelude.{None}}
use Rattle.cacache_disk.specs.Tree.{look}
use Rattle.cacache_disk.proofs.nodes.Nodes.deepest.Given as goal

abbrev pub invariant-loop-i : goal.invariant-loop-i
invariant-loop-i l = (l.above ≡ take (length l.path - l.i) l.path) × (look l.self (take (length l.path - l.i) l.path) ≡ None)
