use Rattle.cacache_loss.specs.{ChangedNames.{opening}, Running.{moment_of}}
use Rattle.cacache_world.proofs.Played.{record_more}
use Rattle.cacache_world.proofs.losing.replay.Goals as goal

pub loop-i-preserved : goal.loop-i-preserved
loop-i-preserved c =
    record_more (moment_of c.loop-i.running) (opening c.args.disk) c.args.records.now c.loop-i.i c.index-records-i.result c.loop-i-test.true c.index-records-i.is c.loop-i.invariant
    (moment_of c.in_ok-running-2.running) c.in_ok-running-2.ensures
