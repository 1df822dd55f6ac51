use Rattle.std.proofs.Common.{ap, not, ◌∙◌}
use Rattle.cacache_world.proofs.NamesOfPaths.{apart_by_fronts}
use Rattle.cacache_world.proofs.names.are_apart.Goals as goal

pub returns : goal.returns
returns c = ap not c.eq.ensures ∙ apart_by_fronts c.args.one.now c.args.other.now c.min-count.result c.min-count.ensures
