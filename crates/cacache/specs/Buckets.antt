-- The words of the laws of one bucket's file, for the crates above: what processes do to it, and what lookups read.
pub use Rattle.cacache_entry.specs.Bucket.{entries_of, NoneAnswers, after_entry, answer_to, latest}
pub use Rattle.cacache_entry.specs.FittingEntries.{IsEntry, IsWritable}
pub use Rattle.cacache_value.specs.ValueLaws.{IsLonger}
pub use Rattle.cacache_system_model.specs.bucket.File.{BucketFile, Event, Happen, LineWrite, all_completed, file_after, file_of, idle, whole_entries, Answers, Ends, Opens}
pub use Rattle.cacache_system_model.specs.bucket.File.{OpensToAppend, Reads, Shows, Starts, Stops}
pub use Rattle.cacache_system_model.specs.bucket.Moments.{HasEntry, ReadOf, answer_to_end}
pub use Rattle.cacache_system_model.specs.bucket.Calls.{AppendRan, HasAppended, LookupsSeeAnswered, LookupsSeeMoments, ReadAmong, ReadRan}
pub use Rattle.cacache_system_model.specs.bucket.Names.{BucketName, HappenNamed, NameEvent, NoneRemoves, ReadsNamed, events_of, name_after, named}
