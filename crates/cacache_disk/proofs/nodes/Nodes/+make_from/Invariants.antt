use Rattle.std.proofs.Common.{length, ◌-◌}
use Rattle.cacache_disk.proofs.nodes.Nodes.+make_from.Given as goal

abbrev pub decreases-make_from : goal.decreases-make_from
decreases-make_from l = length l.path.now - l.from
