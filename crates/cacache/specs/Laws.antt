-- The words of the laws of calls on a store in memory, for the crates above: what a cache holds, what calls left and
-- answered.
pub use Rattle.serde_json.specs.Data.{Data}
pub use Rattle.serde_json.specs.View.{view}
pub use Rattle.cacache_core.specs.declared.errors.Error.TheVariants.{EntryNotFound, SizeMismatch, IoError, SerdeError, IntegrityError, OutOfMemory}
pub use Rattle.cacache_core.specs.declared.errors.Fault.{Fault}
pub use Rattle.cacache_core.specs.declared.errors.Fault.TheVariants.{NotFound, TooDeep}
pub use Rattle.cacache_core.specs.declared.errors.IntegrityFault.{IntegrityFault}
pub use Rattle.cacache_core.specs.declared.errors.IntegrityFault.TheVariants.{Check}
pub use Rattle.cacache_core.specs.Integrity.{HasDigest, IsIntegrity}
pub use Rattle.cacache_core.specs.Paths.{home_of}
pub use Rattle.cacache_disk.specs.Replay.{IsLog, shown, tree_of}
pub use Rattle.cacache_entry.specs.FittingEntries.{AreBytes, IsJson}
pub use Rattle.cacache_calls.specs.declared.command.Source.TheVariants.{Key, Hash as OfHash}
pub use Rattle.cacache_calls.specs.declared.command.How.TheVariants.{Copy, Reflink, HardLink}
pub use Rattle.cacache_calls.specs.Linking.{based}
pub use Rattle.cacache_calls.specs.Promises.{Suits, answered}
pub use Rattle.cacache_calls.specs.Storing.{matches}
pub use Rattle.cacache_value.specs.Value.{InFile, AtLink}
pub use Rattle.cacache_history.specs.Values.{IsThere}
pub use Rattle.cacache_laws.specs.Caches.{IsCache, IsEmptyCache, HasContent, HasKey, LacksKey, Grows, AStepFailed, IsExcused, Called, lies_under}
pub use Rattle.cacache_laws.specs.Beside.{StaysKnown, KeepsOthers, found_under, IsOther, KeepsBeside, ShareAddress}
pub use Rattle.cacache_laws.specs.Inserts.{leads_to}
pub use Rattle.cacache_laws.specs.Removed.{KeepsApart, KeepsApartFrom}
pub use Rattle.cacache_laws.specs.Links.{KeepsBesideLink}
pub use Rattle.cacache_laws.specs.Looks.{IsDamaged, GivesHeld, GivesOfKey, bytes_under}
pub use Rattle.cacache_laws.specs.ExportEffects.{IsApart, NamesBytes}
pub use Rattle.cacache_laws.specs.OpenWriters.{LeavesKnownCache}
pub use Rattle.cacache_laws.specs.Succeeds.{NamesFolder, IsReady, IsTidy, IsUnused, ListsAll, Clears}
pub use Rattle.cacache_laws.specs.OpenSucceeds.{FileAt, MayTake}
pub use Rattle.cacache_laws.specs.results.Success.{FailsForMemory, FailsAs, FailsFor}
pub use Rattle.cacache_laws.specs.results.Reads.{GivesJust, GivesNoEntry, LiesWhole, KeyLiesWhole, LinksToFile, KeyRead, ContentRead, EntryFound, AskedContent}
pub use Rattle.cacache_laws.specs.results.Writes.{DontClash, KeepsUntouched, SaysPlain, KeyWritten, ContentWritten, KeyInserted}
pub use Rattle.cacache_laws.specs.results.Removals.{KeyRemoved, ContentRemoved, KeyRemovedFully, FailsClearing, Cleared}
pub use Rattle.cacache_laws.specs.results.Exports.{NamesHeld, LiesUnread, TellsSource, TellsPath, FailsExport, RefusesSource, HasArrived, CopiedOut, SharedOut}
pub use Rattle.cacache_laws.specs.LinkAnswers.{OpensAs, target_bytes}
pub use Rattle.cacache_laws.specs.results.Links.{LeadsOn, LiesLinked, LinksBytes, LinkedFile}
pub use Rattle.cacache_laws.specs.results.Linkers.{MemLinker, IsLinking, OpenedLinker, LinkedBytes}
pub use Rattle.cacache_calls.specs.Replies.{In}
pub use Rattle.cacache_laws.specs.results.Lists.{AreAllEntries, FailsListing, GivesError, ListedEntries}
pub use Rattle.cacache_laws.specs.results.Handles.{MemWriter, IsWriting, OpenedWriter, SaysFit, ListsOwn, AreAsExpected, FailsCommit, IsEntryFor, LeadsToEntry, MayLeadToEntry}
pub use Rattle.cacache_laws.specs.results.Handles.{LiesOrStayed, CommittedBytes, said_integrity}
pub use Rattle.cacache_laws.specs.results.Composed.{IsTaken, WentOut, GivesLayered, LacksContent, LastsBeside, GotOrPut}
