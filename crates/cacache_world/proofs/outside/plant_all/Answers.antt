use Rattle.cacache_core.specs.Paths.{home_of}
use Rattle.cacache_world.proofs.Files.{lie_more, with_more, apart_more, all_apart, cant_open}
use Rattle.cacache_world.proofs.outside.plant_all.Goals as goal

pub loop-i-preserved : goal.loop-i-preserved
loop-i-preserved c = (
  lie_more (home_of c.args.cache.now) c.args.outside.now c.loop-i.i c.index-outside-i.result c.loop-i-test.true c.index-outside-i.is c.loop-i.invariant.0 c.in-Ok-plant.ensures.apart,
  with_more c.args.outside.now c.loop-i.i c.index-outside-i.result c.loop-i.disk c.plant.new.disk c.loop-i-test.true c.index-outside-i.is c.loop-i.invariant.1 c.in-Ok-plant.ensures.planted,
  apart_more c.args.cache.now c.args.outside.now c.loop-i.i c.index-outside-i.result c.loop-i-test.true c.index-outside-i.is c.loop-i.invariant.2 c.in-Ok-plant.ensures.free,
)

pub returns-in-Err-clause-why : goal.returns-in-Err-clause-why
returns-in-Err-clause-why c =
    cant_open c.args.cache.now c.args.outside.now c.loop-i.i c.index-outside-i.result c.loop-i.disk c.in-Err.fault c.loop-i-test.true c.index-outside-i.is c.loop-i.invariant.1 c.in-Err.ensures.why

pub returns-clause-each : goal.returns-clause-each
returns-clause-each c = all_apart c.args.cache.now c.args.outside.now c.loop-i.i c.loop-i-test.false c.loop-i.invariant.2
