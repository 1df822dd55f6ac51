use Rattle.cacache_loss.specs.Running.{moment_of}
use Rattle.cacache_world.proofs.Played.{lost_left}
use Rattle.cacache_world.proofs.losing.nodes_left.Goals as goal

pub returns : goal.returns
returns c =
    lost_left c.args.cache.now c.args.outside.now c.args.records.now c.args.loss.now c.in-Ok.disk (moment_of c.in_ok-running.running) c.lose.result
    c.in-Ok.ensures.opens c.in_ok-running.ensures c.lose.ensures
