use Rattle.std.proofs.Common.{◌≡◌, ◌++◌, List, map, length}
use Rattle.cacache_entry.specs.{Bucket.{entries_of}, Entry.{Entry}, View.{entry_view}}
use Rattle.cacache_calls.specs.{Runs.{plain_item}, Walking.{once, items_in}}
use Rattle.cacache_walks.specs.Listing.{keys_in, lookups}
use Rattle.cacache_walks.proofs.bucket.items_of_few.Given as goal

abbrev pub invariant-loop-entry : goal.invariant-loop-entry
invariant-loop-entry l = record {
  items : map plain_item l.items.items ++ lookups (entries_of l.bytes) (once (keys_in l.rest)) ≡ items_in l.bytes;
  ends : (front : List Entry) × (entries_of l.bytes ≡ front ++ map entry_view l.rest);
}

abbrev pub decreases-loop-entry : goal.decreases-loop-entry
decreases-loop-entry l = length l.rest
