use Rattle.std.proofs.Common.{◌≡◌, map, take}
use Rattle.cacache_loss.specs.{Fixing.{place_now}, Running.{fixed_in}}
use Rattle.cacache_loss.proofs.running.places.Given as goal

abbrev pub invariant-loop-i : goal.invariant-loop-i
invariant-loop-i l = l.places.items ≡ map (place_now l.disk (fixed_in l.first l.files l.names)) (take l.i l.paths)
