use Rattle.std.proofs.Common.{◌≡◌, length}
use Rattle.cacache_laws.specs.trees.Temporary.{area_of}
use Rattle.cacache_keep.proofs.sweeping.area_in.Given as goal

abbrev pub invariant-loop-name : goal.invariant-loop-name
invariant-loop-name l = area_of l.rest ≡ area_of l.around

abbrev pub decreases-loop-name : goal.decreases-loop-name
decreases-loop-name l = length l.rest
