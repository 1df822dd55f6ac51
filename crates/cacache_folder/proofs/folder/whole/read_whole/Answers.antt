use Rattle.std.proofs.Common.{take, refl}
use Rattle.std_io.specs.IoError.{error_kind}
use Rattle.cacache_system.specs.declared.call.CallResult.TheVariants as says
use Rattle.cacache_system.specs.Seen.{said}
use Rattle.cacache_folder.proofs.Reading.{front_run, front_fails}
use Rattle.cacache_folder.proofs.folder.whole.read_whole.Goals as goal

pub returns-in-Ok : goal.returns-in-Ok
returns-in-Ok g c =
    front_run (g.Y.System.number c.args.file.now) (g.Y.System.number c.ask_to_read.new.file) (take c.in-Ok.count c.ask_to_read.new.buf) _ (said says.Bytes c.read_on.result)
    (g.Y.System.calls c.args.system.now) (g.Y.System.calls c.ask_to_read.new.system) (g.Y.System.calls c.read_on.new.system) c.in-Ok.ensures.made c.in-Ok.ensures.same refl c.read_on.ensures

pub returns-in-Err : goal.returns-in-Err
returns-in-Err g c =
    front_fails (g.Y.System.number c.args.file.now) 2048 (error_kind c.in-Err.error)
    (g.Y.System.calls c.args.system.now) (g.Y.System.calls c.ask_to_read.new.system) c.in-Err.ensures.made
