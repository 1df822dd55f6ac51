-- The claim as a whole, of every legal history.
use Rattle.std.proofs.Common.{rules}
use Rattle.cacache_history.specs.{History.{History, IsLegal}, Headline.{Headline}}
use Rattle.cacache_history.proofs.{Entries.{Bucketed.{buckets_are_of_keys, buckets_hold_own}, AddedEntries.{entries_name_contents, puts_leave_contents}}, Contents.{Commits.{commits_are_cases}, LinkedContents.{links_were_right, links_are_right}}, Listings.{ListingTurns.{listings_read_value}, ListingWalks.{index_is_shallow}}, Histories.{ReadingCalls.{readers_do_nothing, reads_are_verified}, TurnReplies.{replies_read_value, io_errors_are_caused}, PlacedAnswers.{place_laws}, Places.{calls_are_runs, turns_are_moves}, Values.{value_follows_acts, buckets_only_grow, contents_stay, contents_are_right}}}

pub headline : (h : History) → IsLegal h → Headline h
headline h legal = search (rules, turns_are_moves, place_laws, calls_are_runs, value_follows_acts, buckets_only_grow, buckets_are_of_keys, index_is_shallow, buckets_hold_own, contents_stay, contents_are_right, links_were_right, links_are_right, replies_read_value, listings_read_value, reads_are_verified, readers_do_nothing, commits_are_cases, entries_name_contents, puts_leave_contents, io_errors_are_caused)
