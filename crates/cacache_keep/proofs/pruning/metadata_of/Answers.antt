use Rattle.cacache_keep.proofs.Aging.{one_more}
use Rattle.cacache_keep.proofs.pruning.metadata_of.Goals as goal

pub loop-found-preserved : goal.loop-found-preserved
loop-found-preserved c = one_more c.loop-found.all.items c.push.new.self.items c.into_metadata.result c.loop-found.yielded c.in-Some.found c.in_ok-push.ensures.items c.into_metadata.ensures c.loop-found.invariant
