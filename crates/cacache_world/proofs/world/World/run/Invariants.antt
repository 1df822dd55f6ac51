use Rattle.std.proofs.Common.{take}
use Rattle.cacache_world.specs.Played.{HappenAll}
use Rattle.cacache_world.proofs.world.World.run.Given as goal

abbrev pub invariant-loop-event : goal.invariant-loop-event
invariant-loop-event l = HappenAll (take l.event-index l.events) l.fn.self l.self
