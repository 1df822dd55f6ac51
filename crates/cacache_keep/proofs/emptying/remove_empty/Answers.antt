use Rattle.cacache_keep.proofs.Collections.Fates.{unemptied}
use Rattle.cacache_keep.proofs.emptying.remove_empty.Goals as goal

pub returns-in-Err : goal.returns-in-Err
returns-in-Err g c = unemptied c.args.folder _ _ (g.S.Store.log c.args.store.now) (g.S.Store.log c.step.new.self) c.in-Err.ensures c.step.ensures.fits c.step.ensures.logged
