use Rattle.std.{proofs.Common.{◌∙◌, ◌++◌, ap}, specs.List.{filter_map}}
use Rattle.cacache_disk.{specs.Tree.{child_of}, proofs.Below.{listing_from, stops_from}}
use Rattle.cacache_disk.proofs.nodes.Nodes.listing.Goals as goal

pub loop-path-init : goal.loop-path-init
loop-path-init c =
    let all = c.into_iter-path-iterator.ensures.into_iter_gives ∙ c.range-path-items.ensures.between tt in (
      ap (λ l. l ++ filter_map (child_of c.args.folder.now) c.into_iter-path-iterator.result) c.new-names.ensures
          ∙ listing_from c.self.inside.nodes c.args.self.now c.args.folder.now _ c.range-path-items.ensures.ordered c.self.view_is all,
      stops_from c.self.inside.nodes c.args.folder.now _ c.range-path-items.ensures.ordered all,
    )
