use Rattle.std.proofs.Common.{◌≡◌, take}
use Rattle.cacache_disk.specs.AllStanding.{path_text}
use Rattle.cacache_disk.proofs.path.Path.text.Given as goal

abbrev pub invariant-loop-i : goal.invariant-loop-i
invariant-loop-i l = l.text ≡ path_text (take l.i l.self)
