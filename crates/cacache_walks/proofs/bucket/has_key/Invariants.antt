use Rattle.std.{proofs.Common.{◌≡◌, bytes_eq, length}, specs.List.{list_any}}
use Rattle.cacache_walks.specs.Listing.{keys_in}
use Rattle.cacache_walks.proofs.bucket.has_key.Given as goal

abbrev pub invariant-loop-entry : goal.invariant-loop-entry
invariant-loop-entry l = list_any (bytes_eq l.key) (keys_in l.rest) ≡ list_any (bytes_eq l.key) (keys_in l.entries)

abbrev pub decreases-loop-entry : goal.decreases-loop-entry
decreases-loop-entry l = length l.rest
