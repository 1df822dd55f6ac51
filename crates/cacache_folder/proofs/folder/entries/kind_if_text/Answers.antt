use Rattle.cacache_folder.proofs.Entries.{text_asks, no_text}
use Rattle.cacache_folder.proofs.folder.entries.kind_if_text.Goals as goal

pub returns-in-Ok : goal.returns-in-Ok
returns-in-Ok g c =
    text_asks c.args.path.now c.in-Ok.path.now c.kind_at.result (g.Y.System.calls c.args.system.now) (g.Y.System.calls c.kind_at.new.system)
    c.in-Ok.ensures.cases.1 c.in-Ok.ensures.cases.0 c.kind_at.ensures

pub returns-in-Err : goal.returns-in-Err
returns-in-Err g c = no_text c.args.path.now (g.Y.System.calls c.args.system.now) c.in-Err.ensures.cases.0
