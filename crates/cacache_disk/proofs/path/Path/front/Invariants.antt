use Rattle.std.proofs.Common.{◌≡◌, take}
use Rattle.cacache_disk.proofs.path.Path.front.Given as goal

abbrev pub invariant-loop-i : goal.invariant-loop-i
invariant-loop-i l = l.names.items ≡ take l.i l.self-inside.names.items
