use Rattle.std.{proofs.Common.{◌≡◌, ◌++◌, List, ℕ, length, map}, specs.Prelude.{reverse}}
use Rattle.cacache_entry.specs.{View.{entry_view}, declared.metadata.SerializableMetadata.{SerializableMetadata}}
use Rattle.cacache_calls.specs.{Runs.{plain_item}, Walking.{once}}
use Rattle.cacache_walks.{specs.Listing.{keys_in, lookups, entry_in}, proofs.BucketItems.{decider_left}}
use Rattle.cacache_walks.proofs.bucket.items_of_many.Given as goal

abbrev pub invariant-loop-entry : goal.invariant-loop-entry
invariant-loop-entry l =
    let es = map entry_view l.entries in
    (later : List SerializableMetadata) × (l.entries ≡ l.rest ++ later)
    × ((key : List ℕ) → entry_in l.deciders key ≡ decider_left es (keys_in later) key)
    × (map plain_item l.items.items ≡ reverse (lookups es (once (keys_in later))))

abbrev pub decreases-loop-entry : goal.decreases-loop-entry
decreases-loop-entry l = length l.rest
