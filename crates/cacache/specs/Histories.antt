-- The words of histories, for the crates above: what many callers did in a world or on one machine, what a lookup found at
-- each place, and what a loss of power left.
pub use Rattle.cacache_core.specs.Integrity.{digest}
pub use Rattle.cacache_core.specs.Paths.{Names, names_of}
pub use Rattle.cacache_disk.specs.Tree.{Tree}
pub use Rattle.cacache_entry.specs.Bucket.{NoneAnswers}
pub use Rattle.cacache_calls.specs.declared.command.Command.{Command}
pub use Rattle.cacache_calls.specs.declared.command.Put.{Put}
pub use Rattle.cacache_calls.specs.Promises.{Answers}
pub use Rattle.cacache_calls.specs.Steps.{content_path}
pub use Rattle.cacache_calls.specs.Storing.{put_commit}
pub use Rattle.cacache_value.specs.Acts.{PutBytes}
pub use Rattle.cacache_loss.specs.declared.loss.Loss.{Loss}
pub use Rattle.cacache_loss.specs.Running.{chosen}
pub use Rattle.cacache_history.specs.declared.record.Record.{Record}
pub use Rattle.cacache_history.specs.declared.record.Record.TheVariants.{Began, Moved, Stopped}
pub use Rattle.cacache_history.specs.AddedEntries.{address_of_put}
pub use Rattle.cacache_history.specs.Commits.{AreRemovals, CommitsAs, DropsAmong, IsCase, RemovesFound, deeds}
pub use Rattle.cacache_history.specs.Headline.{Headline}
pub use Rattle.cacache_history.specs.History.{History, Call, IsLegal, Reaches}
pub use Rattle.cacache_history.specs.Lookups.{FoundOfPuts, IsOneOfPuts, SparesKey, WasWritten, found_of_put, lookup_at}
pub use Rattle.cacache_history.specs.Places.{CallIn, MoveAt, MovesAre, now_before}
pub use Rattle.cacache_history.specs.Setup.{call_site, home}
pub use Rattle.cacache_history.specs.Values.{MetDigestsAreSame}
pub use Rattle.cacache_history.specs.durable.QuietMoves.{FewCalls}
pub use Rattle.cacache_history.specs.durable.Behind.{Behind, NoneAppends, StaysSynced}
pub use Rattle.cacache_history.specs.durable.Outlasting.{AnsweredPut, DurableInsert, DurablePut, EntriesHaveBehind, FoundLink, HistoriesOutlive, KeepsLink, Outlives, OutlastsWith}
pub use Rattle.cacache_history.specs.durable.Outlasting.{PutsOrLinksOutlast}
pub use Rattle.cacache_system_model.specs.callers.Made.{CacheOn, CachesBegin, CachesGoOn, MakesHistory, history_of, now_left}
pub use Rattle.cacache_system_model.specs.callers.Seen.{SeenActsAre, SeenMakeHistories}
pub use Rattle.cacache_system_model.specs.callers.Losing.{SeenLose, LosesAsHistory}
pub use Rattle.cacache_system_model.specs.callers.Numbers.{NumbersDiffer}
pub use Rattle.cacache_world.specs.Played.{LeftBy}
pub use Rattle.cacache_laws.specs.Meanwhile.{AllSpareListed, LeadsToContent, ListingsName, ListsAllIn, PutsKeep}
pub use Rattle.cacache_laws.specs.Standing.{IsStanding}
pub use Rattle.cacache_laws.specs.results.DurableCases.{CanBeWritten, GoElsewhere, InsertsStandInOne, IsLastPut, PutsStandInOne, PutsStandLast, StandsIn, StoresDurably}
pub use Rattle.cacache_laws.specs.results.DurableCases.{followed_by}
pub use Rattle.cacache_laws.specs.results.FoundLinks.{GivesDigest, HistoriesKeepLinks, LeadsUnchanged, LinksLeadUnchanged, LinksOutlast, OnlyLinksIn, PutsOrLinksGive}
pub use Rattle.cacache_laws.specs.results.FoundLinks.{StaysUnchanged, UnchangedFilesStay, linking_in, LeadsThrough, LinkIsLeft, LossesLeaveLastLinks, LossesLeaveLinks}
pub use Rattle.cacache_laws.specs.results.Losses.{IsLast, IsLeft, LeadsToDigest, LeftRead, LeftReadMeans, LeftWriteMeans, LeftWritten, LossesLeaveLast, LossesLeavePuts}
pub use Rattle.cacache_laws.specs.results.Losses.{LossesLeaveStanding, PutIsLeft, StandsBefore}
