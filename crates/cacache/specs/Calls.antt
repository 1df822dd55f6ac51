-- What calls do, for the crates above: commands, replies, runs, and the states of a job.
pub use Rattle.cacache_core.specs.declared.errors.Error.{Error}
pub use Rattle.cacache_store.specs.declared.env.Env.{Env}
pub use Rattle.cacache_calls.specs.declared.command.Command.TheVariants.{Put, Link, Insert, Delete, Find, Get, GetHash, Exists, RemoveHash, RemoveFully, Export, Clear, Ls}
pub use Rattle.cacache_calls.specs.declared.reply.Reply.{Reply}
pub use Rattle.cacache_calls.specs.declared.reply.Reply.TheVariants.{Stored, Read, LookedUp, Copied, Listed, Done, Refused}
pub use Rattle.cacache_calls.specs.State.{State, Site, Item}
pub use Rattle.cacache_calls.specs.Table.{opening, wants, after}
pub use Rattle.cacache_calls.specs.Runs.{Moves, Runs, Gains, Ran, without_message, plain_item, plain_reply, reply_of}
pub use Rattle.cacache_jobs.specs.Jobs.{can_go_on, has_out, is_step}
pub use Rattle.cacache_jobs.specs.ReadFirst.{ReadsFound, Verified, Linked}
pub use Rattle.cacache_calls.specs.Common.{blank}
pub use Rattle.cacache_calls.specs.Replies.{done, looked_up}
pub use Rattle.cacache_sync.specs.put.KeyedWriters.{Said, nothing_said, options_of, keyed_put, unkeyed_put, insert_of}
pub use Rattle.cacache_sync.specs.put.OpenLinkers.{link_to, HoldsTarget}
pub use Rattle.cacache_sync.specs.Lookups.{ReadsBucket, Finds, LooksUp, delete_of}
pub use Rattle.cacache_jobs.specs.Environment.{KeepsRest, Steps, Calls, MomentOf, RunsNumbered, RunsTimed, RunsPut}
pub use Rattle.cacache_sync.specs.Reads.{AsksContent, bytes_read, has}
pub use Rattle.cacache_sync.specs.Exports.{exporting, checked_export, unchecked_export, Asks, AsksFree, ExportsBy, ExportsTo, GoesOn, Tries, ways, way_of, is_closed, export_reply}
pub use Rattle.cacache_sync.specs.Layers.{AsksLayers, ReadsKey, ReadsHash, FindsKey, AsksHash, lacks_entry, lacks_content, finds_none, says_no}
