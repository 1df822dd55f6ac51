use Rattle.std.{proofs.Common.{◌≡◌, Some, map, take}, specs.Prelude.{All}}
use Rattle.cacache_core.specs.Integrity.{IsIntegrity, address}
use Rattle.cacache_keep.proofs.live.addresses_of.Given as goal

abbrev pub invariant-loop-found : goal.invariant-loop-found
invariant-loop-found l =
    (map Some l.live.items ≡ map (λ f. address f.integrity) (take l.found-index l.entries))
    × All (λ f. IsIntegrity f.integrity) (take l.found-index l.entries)
