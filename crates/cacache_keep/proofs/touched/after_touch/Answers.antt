use Rattle.cacache_keep.proofs.TouchedKeys.{touch_means}
use Rattle.cacache_keep.proofs.touched.after_touch.Goals as goal

pub returns : goal.returns
returns g c = record { touches = touch_means g.C.Clock.given c.args.cache.now c.args.key.now c.args.touched.now c.args.env.now c.utf8.key c.log-log.ensures.replayable }
