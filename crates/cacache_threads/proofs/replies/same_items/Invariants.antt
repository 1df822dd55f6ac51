use Rattle.std.proofs.Common.{◌≡◌, ◌↔◌, map, drop}
use Rattle.cacache_threads.specs.Said.{said_item}
use Rattle.cacache_threads.proofs.replies.same_items.Given as goal

abbrev pub invariant-loop-item : goal.invariant-loop-item
invariant-loop-item l = (map said_item l.a ≡ map said_item l.b) ↔ (map said_item (drop l.item-index l.a) ≡ map said_item l.rest)
