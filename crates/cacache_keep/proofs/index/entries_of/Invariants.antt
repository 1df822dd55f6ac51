use Rattle.std.proofs.Common.{◌≡◌, Ok, map}
use Rattle.cacache_keep.proofs.index.entries_of.Given as goal

abbrev pub invariant-loop-item : goal.invariant-loop-item
invariant-loop-item l = l.yielded ≡ map Ok l.entries.items
