use Rattle.cacache_sync.proofs.content.Writes.{makes_by}
use Rattle.cacache_sync.proofs.content.writer.make_temp.Goals as goal

pub returns : goal.returns
returns g c =
    λ number at.
    makes_by g.S.Temp.TempHandle.seen c.args.cache.now number c.args.path _ c.made_temp.result _ _ _ at c.in_ok-make_folder.ensures.made c.made_temp.ensures c.step.ensures.fits c.step.ensures.logged
