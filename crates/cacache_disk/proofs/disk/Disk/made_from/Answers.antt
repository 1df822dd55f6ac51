use Rattle.std.proofs.Common.{◌∙◌, subst}
use Rattle.cacache_disk.{specs.Deepest.{IsDeepest}, proofs.Standing.{dirs_is, makes_from}}
use Rattle.cacache_disk.proofs.disk.Disk.made_from.Goals as goal

pub returns-in-None-clause-ok : goal.returns-in-None-clause-ok
returns-in-None-clause-ok c =
    let deepest = subst (λ t. IsDeepest t c.args.names.now c.in_ok-count.count c.in_ok-count.node.now) c.nodes.ensures.same c.in_ok-count.ensures in
    dirs_is c.args.self.now c.args.names.now c.in_ok-count.count c.in_ok-count.node.now c.nodes.ensures.rooted deepest ∙ (cc)

pub returns-in-None-clause-from : goal.returns-in-None-clause-from
returns-in-None-clause-from c =
    let deepest = subst (λ t. IsDeepest t c.args.names.now c.in_ok-count.count c.in_ok-count.node.now) c.nodes.ensures.same c.in_ok-count.ensures in
    makes_from c.args.self.now c.args.names.now c.in_ok-count.count c.in_ok-count.node.now c.nodes.ensures.rooted deepest

pub returns-in-Some-clause-err : goal.returns-in-Some-clause-err
returns-in-Some-clause-err c =
    let deepest = subst (λ t. IsDeepest t c.args.names.now c.in_ok-count.count c.in_ok-count.node.now) c.nodes.ensures.same c.in_ok-count.ensures in
    dirs_is c.args.self.now c.args.names.now c.in_ok-count.count c.in_ok-count.node.now c.nodes.ensures.rooted deepest ∙ (cc)
