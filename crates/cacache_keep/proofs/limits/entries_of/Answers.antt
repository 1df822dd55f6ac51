use Rattle.cacache_keep.proofs.Aging.{entry_more}
use Rattle.cacache_keep.proofs.limits.entries_of.Goals as goal

pub loop-one-preserved : goal.loop-one-preserved
loop-one-preserved c = entry_more c.loop-one.all.items c.push.new.self.items c.in-Some.one c.loop-one.yielded c.in_ok-push.ensures.items c.loop-one.invariant
