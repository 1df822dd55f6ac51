use Rattle.cacache_system.specs.CallsOf as calls
use Rattle.cacache_folder.proofs.Making.{keeps}
use Rattle.cacache_folder.proofs.folder.rewriting.keep.Goals as goal

pub returns-in-Ok : goal.returns-in-Ok
returns-in-Ok g c =
    keeps (g.Y.System.number c.args.temp.now.file) c.args.temp.now.is_synced c.args.path.now c.in-Ok.info c.give.result
    (g.Y.System.calls c.args.system.now) (g.Y.System.calls c.stat.new.self) (g.Y.System.calls c.give.new.system) c.in-Ok.ensures c.give.ensures
