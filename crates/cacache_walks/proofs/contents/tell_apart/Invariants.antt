use Rattle.cacache_walks.specs.Listing.{Sorts}
use Rattle.cacache_walks.proofs.contents.tell_apart.Given as goal

abbrev pub invariant-loop-file : goal.invariant-loop-file
invariant-loop-file l = Sorts l.cache l.yielded l.addresses.items l.strange.items
