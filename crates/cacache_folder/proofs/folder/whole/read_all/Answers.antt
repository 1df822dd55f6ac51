use Rattle.std.proofs.Common.{refl}
use Rattle.std_io.specs.IoError.{error_kind}
use Rattle.cacache_system.specs.declared.call.SystemCall.TheVariants as asks
use Rattle.cacache_system.specs.declared.call.CallResult.TheVariants as says
use Rattle.cacache_system.specs.Seen.{said}
use Rattle.cacache_system.specs.CallsOf as calls
use Rattle.cacache_folder.proofs.CallRuns.{run_call, run_one}
use Rattle.cacache_folder.proofs.folder.whole.read_all.Goals as goal

pub returns-in-Ok : goal.returns-in-Ok
returns-in-Ok g c =
    run_call (calls.opening_whole c.args.path.now) (asks.OpenToRead c.args.path.now) (says.Opened (g.Y.System.number c.in-Ok.file)) (said says.Bytes c.read_whole.result)
    (g.Y.System.calls c.args.system.now) (g.Y.System.calls c.open_to_read.new.self) (g.Y.System.calls c.read_whole.new.system) c.in-Ok.ensures refl c.read_whole.ensures

pub returns-in-Err : goal.returns-in-Err
returns-in-Err g c =
    let why = says.Failed (error_kind c.in-Err.error) in
    run_one (calls.opening_whole c.args.path.now) (asks.OpenToRead c.args.path.now) why why
    (g.Y.System.calls c.args.system.now) (g.Y.System.calls c.open_to_read.new.self) c.in-Err.ensures refl refl
