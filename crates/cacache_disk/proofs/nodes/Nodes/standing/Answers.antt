use Rattle.std.{proofs.Common.{◌∙◌, ◌++◌, ap}, specs.Prelude.{map as each}}
use Rattle.cacache_disk.{specs.AllStanding.{item_of}, proofs.Maps.{standing_entries}}
use Rattle.cacache_disk.proofs.nodes.Nodes.standing.Goals as goal

pub loop-path-init : goal.loop-path-init
loop-path-init c =
    ap (λ l. l ++ each item_of c.into_iter-path-iterator.result) c.new-all.ensures.items
    ∙ standing_entries c.self.inside.nodes c.args.self.now _ c.iter-path-items.ensures.ordered c.self.view_is
    (c.into_iter-path-iterator.ensures.into_iter_gives ∙ c.iter-path-items.ensures.rest)
