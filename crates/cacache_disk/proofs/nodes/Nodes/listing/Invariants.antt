use Rattle.std.{proofs.Common.{◌≡◌, ◌++◌}, specs.List.{filter_map}}
use Rattle.cacache_disk.{specs.Tree.{listing, child_of}, proofs.Below.{Stops}}
use Rattle.cacache_disk.proofs.nodes.Nodes.listing.Given as goal

abbrev pub invariant-loop-path : goal.invariant-loop-path
invariant-loop-path l = (l.names ++ filter_map (child_of l.folder) l.path-iterator ≡ listing l.self l.folder) × Stops l.folder l.path-iterator
