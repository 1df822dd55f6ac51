use Rattle.std.{proofs.Common.{◌∙◌, ◌++◌, sym, ap}, specs.Prelude.{map as keys_of}}
use Rattle.std.specs.FinMap as map
use Rattle.cacache_disk.proofs.Maps.{entries_map}
use Rattle.cacache_disk.proofs.nodes.Nodes.paths.Goals as goal

pub loop-path-init : goal.loop-path-init
loop-path-init c =
    ap (λ paths. paths ++ c.into_iter-path-iterator.result) c.new-paths.ensures.items
    ∙ c.into_iter-path-iterator.ensures.into_iter_gives ∙ c.keys-path-items.ensures.rest
    ∙ ap (keys_of (λ e. e.0)) (sym (entries_map c.self.inside.nodes c.keys-path-items.ensures.ordered))
    ∙ ap map.keys c.self.view_is
