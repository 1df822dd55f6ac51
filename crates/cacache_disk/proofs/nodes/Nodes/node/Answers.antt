use Rattle.std.proofs.Common.{◌∙◌, ap, sym}
use Rattle.std.specs.FinMap as map
use Rattle.cacache_disk.proofs.Maps.{get_map}
use Rattle.cacache_disk.proofs.nodes.Nodes.node.Goals as goal

pub returns : goal.returns
returns c = c.get.ensures.value ∙ sym (get_map c.self.inside.nodes c.args.path.now) ∙ ap (λ t. map.get t c.args.path.now) c.self.view_is
