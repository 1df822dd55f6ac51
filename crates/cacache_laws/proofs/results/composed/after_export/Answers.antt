use Rattle.cacache_laws.proofs.results.ExportWays.{export_means}
use Rattle.cacache_laws.proofs.results.composed.after_export.Goals as goal

pub returns : goal.returns
returns g c = export_means c.args.cache.now c.args.to.now c.args.exported.now c.args.env.now c.log-log.ensures.replayable
