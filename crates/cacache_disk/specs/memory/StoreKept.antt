-- What each store in memory keeps.
use Rattle.std.specs.Prelude.{◌≡◌}
use Rattle.cacache_disk.specs.{declared.memory.store.MemStore.TheInside.{Inside}, Replay.{tree_of, IsLog}}

-- the log is of a disk that was bare at first, and the tree is what the log leads to
pub record StoreIsKept (s : Inside) : Type 0 where
  pub logged : IsLog s.log.items
  pub tree : tree_of s.log.items ≡ s.disk
