use Rattle.std.proofs.Common.{◌∙◌, sym, ap₂, subst}
use Rattle.cacache_disk.{specs.{declared.node.Node.TheVariants.{Folder}, Tree.{Tree, Names, put, Rooted}}, proofs.Roots.{bare_rooted}}
use Rattle.cacache_disk.proofs.disk.Disk.new.Goals as goal

pub invariant_of-result : goal.invariant_of-result
invariant_of-result c =
    subst Rooted (sym (c.in_ok-put.ensures.ok ∙ ap₂ (λ (t : Tree) (p : Names). put t p Folder) c.new-nodes.ensures c.top.ensures)) bare_rooted

pub returns-clause-rooted : goal.returns-clause-rooted
returns-clause-rooted c =
    subst Rooted (sym (c.in_ok-put.ensures.ok ∙ ap₂ (λ (t : Tree) (p : Names). put t p Folder) c.new-nodes.ensures c.top.ensures)) bare_rooted
