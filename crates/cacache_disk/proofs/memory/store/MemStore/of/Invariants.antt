use Rattle.std.specs.Vec.Iter.{into_iter_items}
use Rattle.cacache_disk.proofs.Logs.{Receives}
use Rattle.cacache_disk.proofs.memory.store.MemStore.of.Given as goal

abbrev pub invariant-loop-item : goal.invariant-loop-item
invariant-loop-item l = Receives l.disk l.store (into_iter_items l.item-iterator)
