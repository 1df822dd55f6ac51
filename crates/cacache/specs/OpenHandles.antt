-- Open readers, writers and linkers, listings of the index, and whole writes by polls, for the crates above.
pub use Rattle.cacache_sync.specs.content.OpenReads.{HasRead, OpensFile, FailsToOpen, OpensHash, FindsKey, OpensFound, OpensKey, passed}
pub use Rattle.cacache_store.specs.Outside.{Error as FileError}
pub use Rattle.cacache_calls.specs.SingleSteps.{Does, FailsAt}
pub use Rattle.cacache_sync.specs.content.OpenWrites.{HasTaken, counted_bytes, Takes, TakesPart, IsSameWriter, WholeFails, IsWriteError, IsRetried, IsFresh, Makes, FailsToMake}
pub use Rattle.cacache_sync.specs.content.OpenWrites.{OpensTemp, EndsWriter, RemovesTemp, AsksToRemove, TriesToRemove, content_commit, unkeyed}
pub use Rattle.cacache_sync.specs.put.KeyedWriters.{IsNewWriter, OpensAt, OpensKeyed, CommitsWriter, writer_commit}
pub use Rattle.cacache_calls.specs.Linking.{linked_to, with_size, target_at}
pub use Rattle.cacache_sync.specs.put.OpenLinkers.{LinkTarget, HasHashed, IsNewLinker, OpensLink, OpensWithSize, HasSize, OpensLinker, CommitsLink, StoresWhole, linked_by}
pub use Rattle.cacache_sync.specs.put.OpenLinkers.{asks_size, asks_file, stands_at}
pub use Rattle.cacache_writers.specs.Writing.{AllTaken, Tells, WritesOn, all_taken, left, left_over, next_piece}
pub use Rattle.cacache_walks.specs.Iterating.{Lists, Gave, IsListing, NextGives, item_view}
