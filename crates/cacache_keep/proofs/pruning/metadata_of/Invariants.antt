use Rattle.std.proofs.Common.{◌≡◌, map}
use Rattle.cacache_entry.specs.View.{found_view}
use Rattle.cacache_keep.proofs.pruning.metadata_of.Given as goal

abbrev pub invariant-loop-found : goal.invariant-loop-found
invariant-loop-found l = map found_view l.all.items ≡ l.yielded
