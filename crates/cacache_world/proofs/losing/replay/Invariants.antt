use Rattle.std.proofs.Common.{◌≡◌, take}
use Rattle.cacache_history.specs.Values.{steps_of}
use Rattle.cacache_loss.specs.{ChangedNames.{opening}, Moments.{after}, Running.{moment_of}}
use Rattle.cacache_world.proofs.losing.replay.Given as goal

abbrev pub invariant-loop-i : goal.invariant-loop-i
invariant-loop-i l = moment_of l.running ≡ after (opening l.fn.disk) (steps_of (take l.i l.records))
