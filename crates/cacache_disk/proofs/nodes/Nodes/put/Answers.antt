use Rattle.std.proofs.Common.{◌∙◌, ap}
use Rattle.cacache_disk.{specs.Tree.{put}, proofs.Maps.{put_map}}
use Rattle.cacache_disk.proofs.nodes.Nodes.put.Goals as goal

pub returns-clause-ok : goal.returns-clause-ok
returns-clause-ok c = put_map c.self.inside.nodes c.insert.new.self c.args.path c.args.node c.in_ok-insert.ensures.updates ∙ ap (λ t. put t c.args.path c.args.node) c.self.view_is
