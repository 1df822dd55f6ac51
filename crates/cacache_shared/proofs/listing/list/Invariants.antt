use Rattle.cacache_shared.specs.Storms.{IsListing}
use Rattle.cacache_shared.proofs.listing.list.Given as goal

abbrev pub invariant-loop : goal.invariant-loop
invariant-loop l = IsListing l.fn.world l.world
