use Rattle.std.proofs.Common.{◌≡◌, Some, map, take}
use Rattle.cacache_core.specs.Integrity.{address}
use Rattle.cacache_keep.proofs.live.hashes_of.Given as goal

abbrev pub invariant-loop-sri : goal.invariant-loop-sri
invariant-loop-sri l = map Some l.hashes.items ≡ map address (take l.sri-index l.addresses)
