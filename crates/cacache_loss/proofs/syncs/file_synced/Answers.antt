use Rattle.std.proofs.Common.{◌∙◌, ap}
use Rattle.cacache_disk.specs.Tree.{bytes_of}
use Rattle.cacache_loss.{specs.Fixing.{synced}, proofs.PathMaps.{end_fixed}}
use Rattle.cacache_loss.proofs.syncs.file_synced.Goals as goal

pub returns-in-Ok : goal.returns-in-Ok
returns-in-Ok c = end_fixed c.args.disk.now c.args.path.now c.in-Ok.end c.synced-fixing.result c.args.files.now c.fix.new.files c.fix.result c.in-Ok.ensures.ok (c.synced-fixing.ensures ∙ ap (λ o. synced (bytes_of o)) c.in-Ok.ensures.node) c.fix.ensures
