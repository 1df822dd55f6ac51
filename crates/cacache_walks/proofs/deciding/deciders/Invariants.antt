use Rattle.std.proofs.Common.{◌≡◌, ◌++◌, List, ℕ, length, map}
use Rattle.cacache_entry.specs.{View.{entry_view}, declared.metadata.SerializableMetadata.{SerializableMetadata}}
use Rattle.cacache_walks.specs.Listing.{decider, entry_in}
use Rattle.cacache_walks.proofs.deciding.deciders.Given as goal

abbrev pub invariant-loop-entry : goal.invariant-loop-entry
invariant-loop-entry l =
    (later : List SerializableMetadata) × (l.entries ≡ l.rest ++ later)
    × ((key : List ℕ) → entry_in l.deciders key ≡ decider key (map entry_view later))

abbrev pub decreases-loop-entry : goal.decreases-loop-entry
decreases-loop-entry l = length l.rest
