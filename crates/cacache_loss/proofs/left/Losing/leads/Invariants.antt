use Rattle.std.proofs.Common.{◌≡◌, [], take, drop}
use Rattle.cacache_loss.specs.{Loss.{lead_folders}, Running.{left_of}}
use Rattle.cacache_loss.proofs.left.Losing.leads.Given as goal

abbrev pub invariant-loop-i : goal.invariant-loop-i
invariant-loop-i l = lead_folders (left_of l.self) (take l.i l.path) (drop l.i l.path) ≡ lead_folders (left_of l.self) [] l.path
