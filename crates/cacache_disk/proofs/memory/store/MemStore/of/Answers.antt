use Rattle.std.{proofs.Common.{◌≡◌, ◌∷◌, ◌∙◌, subst}, specs.Vec.Iter.{into_iter_items}}
use Rattle.cacache_disk.proofs.Logs.{Receives, receives_first, receives_next}
use Rattle.cacache_disk.proofs.memory.store.MemStore.of.Goals as goal

pub loop-item-init : goal.loop-item-init
loop-item-init c =
    receives_first c.args.disk.now c.in_ok-store.store (into_iter_items c.into_iter-item-iterator.result)
    c.in_ok-item-items.ensures.rooted c.in_ok-store.ensures (c.into_iter-item-iterator.ensures.into_iter_gives.0 ∙ c.in_ok-item-items.ensures.all)

pub loop-item-preserved : goal.loop-item-preserved
loop-item-preserved c =
    let at = c.loop-item in
    let steps : into_iter_items at.item-iterator ≡ c.in-Some.item ∷ into_iter_items c.next.new.self = c.in-Some.ensures.steps.0 in
    receives_next c.args.disk.now at.store c.receive.new.self c.in-Some.item (into_iter_items c.next.new.self)
    (subst (Receives c.args.disk.now at.store) steps at.invariant) c.in_ok-receive.ensures.ok
