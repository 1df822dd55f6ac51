use Rattle.std.proofs.Common.{◌≡◌, take}
use Rattle.cacache_store.proofs.store.answer.Listing.copy.Given as goal

abbrev pub invariant-loop-name : goal.invariant-loop-name
invariant-loop-name l = l.names.items ≡ take l.name-index l.self
