use Rattle.std.{proofs.Common.{◌≡◌, ◌∙◌, ◌-◌, length, sym, ap, subst, arith}, specs.Prelude.{None, Some}}
use Rattle.cacache_disk.{specs.{LedTo.{or_fault}, Deepest.{IsDeepest, way_past}}, proofs.Standing.{place_is, missing_whole}}
use Rattle.cacache_disk.proofs.disk.Disk.place.Goals as goal

pub returns-in-Some-clause-err : goal.returns-in-Some-clause-err
returns-in-Some-clause-err c =
    let deepest = subst (λ t. IsDeepest t c.in_ok-names.names c.in_ok-count.count c.in_ok-count.node.now) c.nodes-nodes.ensures.same c.in_ok-count.ensures in
    let way : way_past c.in_ok-count.node.now (length c.in_ok-names.names - c.in_ok-count.count) ≡ Some c.in-Some.fault = cc in
    place_is c.args.self.now c.args.path.now c.in_ok-names.names c.in_ok-count.count c.in_ok-count.node.now c.nodes-nodes.ensures.rooted deepest c.in_ok-names.ensures.ok
    ∙ ap (λ o. or_fault o c.in_ok-names.names) way

pub returns-in-None-clause-ok : goal.returns-in-None-clause-ok
returns-in-None-clause-ok c =
    let deepest = subst (λ t. IsDeepest t c.in_ok-names.names c.in_ok-count.count c.in_ok-count.node.now) c.nodes-nodes.ensures.same c.in_ok-count.ensures in
    let way : way_past c.in_ok-count.node.now (length c.in_ok-names.names - c.in_ok-count.count) ≡ None = cc in
    place_is c.args.self.now c.args.path.now c.in_ok-names.names c.in_ok-count.count c.in_ok-count.node.now c.nodes-nodes.ensures.rooted deepest c.in_ok-names.ensures.ok
    ∙ ap (λ o. or_fault o c.in_ok-names.names) way

pub returns-clause-ok : goal.returns-clause-ok
returns-clause-ok c =
    let deepest = subst (λ t. IsDeepest t c.in_ok-names.names c.in_ok-count.count c.in_ok-count.node.now) c.nodes-nodes.ensures.same c.in_ok-count.ensures in
    let way : way_past c.in_ok-count.node.now (length c.in_ok-names.names - c.in_ok-count.count) ≡ None = cc in
    place_is c.args.self.now c.args.path.now c.in_ok-names.names c.in_ok-count.count c.in_ok-count.node.now c.nodes-nodes.ensures.rooted deepest c.in_ok-names.ensures.ok
    ∙ ap (λ o. or_fault o c.in_ok-names.names) way

pub returns-clause-node : goal.returns-clause-node
returns-clause-node c =
    let deepest = subst (λ t. IsDeepest t c.in_ok-names.names c.in_ok-count.count c.in_ok-count.node.now) c.nodes-nodes.ensures.same c.in_ok-count.ensures in
    sym (missing_whole c.args.self.now c.in_ok-names.names c.in_ok-count.count c.in_ok-count.node.now c.nodes-nodes.ensures.rooted deepest (λ none. omega (arith, none)))
