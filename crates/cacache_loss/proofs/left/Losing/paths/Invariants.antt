use Rattle.std.{proofs.Common.{◌≡◌, ◌++◌}, specs.BTreeMap.{keys}}
use Rattle.std.specs.FinMap as map
use Rattle.cacache_loss.proofs.left.Losing.paths.Given as goal

abbrev pub invariant-loop-path : goal.invariant-loop-path
invariant-loop-path l = l.paths.items ++ l.path-iterator ≡ map.keys l.self.running.disk ++ keys l.self.running.names
