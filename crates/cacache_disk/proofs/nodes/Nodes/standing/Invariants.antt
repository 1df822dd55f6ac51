use Rattle.std.{proofs.Common.{◌≡◌, ◌++◌}, specs.Prelude.{map as each}}
use Rattle.cacache_disk.specs.AllStanding.{item_of, all_standing}
use Rattle.cacache_disk.proofs.nodes.Nodes.standing.Given as goal

abbrev pub invariant-loop-path : goal.invariant-loop-path
invariant-loop-path l = l.all.items ++ each item_of l.path-iterator ≡ all_standing l.self
