use Rattle.std.proofs.Common.{◌≡◌, map}
use Rattle.cacache_entry.specs.View.{found_view}
use Rattle.cacache_keep.specs.Limits.{entries_in, weight_of}
use Rattle.cacache_keep.proofs.limits.entries_of.Given as goal

abbrev pub invariant-loop-one : goal.invariant-loop-one
invariant-loop-one l = map found_view l.all.items ≡ entries_in (map weight_of l.yielded)
