use Rattle.std.proofs.Common.{refl}
use Rattle.std_io.specs.IoError.{error_kind}
use Rattle.cacache_system.specs.declared.call.SystemCall.TheVariants as asks
use Rattle.cacache_system.specs.declared.call.CallResult.TheVariants as says
use Rattle.cacache_system.specs.Seen.{said}
use Rattle.cacache_system.specs.CallsOf as calls
use Rattle.cacache_folder.proofs.CallRuns.{run_call, run_one}
use Rattle.cacache_folder.proofs.folder.whole.read_long.Goals as goal

pub returns-in-Ok : goal.returns-in-Ok
returns-in-Ok g c =
    let file = g.Y.System.number c.args.file.now in
    run_call (calls.measuring c.args.front.now file) (asks.StatFile file) (says.Info c.in-Ok.info) (said says.Bytes c.after_front.result)
    (g.Y.System.calls c.args.system.now) (g.Y.System.calls c.stat_file.new.self) (g.Y.System.calls c.after_front.new.system) c.in-Ok.ensures refl c.after_front.ensures

pub returns-in-Err : goal.returns-in-Err
returns-in-Err g c =
    let file = g.Y.System.number c.args.file.now in
    let why = says.Failed (error_kind c.in-Err.error) in
    run_one (calls.measuring c.args.front.now file) (asks.StatFile file) why why
    (g.Y.System.calls c.args.system.now) (g.Y.System.calls c.stat_file.new.self) c.in-Err.ensures refl refl
