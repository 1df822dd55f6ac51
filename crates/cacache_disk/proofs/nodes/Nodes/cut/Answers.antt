use Rattle.std.proofs.Common.{◌∙◌, ap}
use Rattle.cacache_disk.{specs.Tree.{cut}, proofs.Maps.{cut_map}}
use Rattle.cacache_disk.proofs.nodes.Nodes.cut.Goals as goal

pub returns : goal.returns
returns c = cut_map c.self.inside.nodes c.remove.new.self c.args.path.now c.remove.ensures.updates ∙ ap (λ t. cut t c.args.path.now) c.self.view_is
