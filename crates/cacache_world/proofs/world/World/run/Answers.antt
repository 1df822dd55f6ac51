use Rattle.cacache_world.proofs.Played.{play_more, stops_at}
use Rattle.cacache_world.proofs.world.World.run.Goals as goal

pub loop-event-preserved : goal.loop-event-preserved
loop-event-preserved c =
    play_more c.args.events.now c.loop-event.event-index c.event-item.result c.args.self.now c.loop-event.self c.happen.new.self c.loop-event-test.true c.event-item.is c.loop-event.invariant c.in-Ok.ensures.happens

pub returns-in-Err-clause-until : goal.returns-in-Err-clause-until
returns-in-Err-clause-until c =
    stops_at c.args.events.now c.loop-event.event-index c.event-item.result c.args.self.now c.loop-event.self c.happen.new.self c.in-Err.fault c.loop-event-test.true c.event-item.is c.loop-event.invariant
    c.in-Err.ensures.same c.in-Err.ensures.why
