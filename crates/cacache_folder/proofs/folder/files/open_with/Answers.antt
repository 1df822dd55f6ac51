use Rattle.std_io.specs.IoError.{error_kind}
use Rattle.cacache_system.specs.declared.call.CallResult.TheVariants as says
use Rattle.cacache_system.specs.CallsOf as calls
use Rattle.cacache_folder.proofs.CallRuns.{run_took}
use Rattle.cacache_folder.proofs.folder.files.open_with.Goals as goal

pub returns-in-Ok-open : goal.returns-in-Ok-open
returns-in-Ok-open g c =
    run_took (calls.opening calls.to_give c.args.path.now) (says.Opened (g.Y.System.number c.in-Ok-open.file))
    (g.Y.System.calls c.args.system.now) (g.Y.System.calls c.open.new.system) c.in-Ok-open.ensures

pub returns-in-Err : goal.returns-in-Err
returns-in-Err g c =
    run_took (calls.opening calls.to_give c.args.path.now) (says.Failed (error_kind c.in-Err.error))
    (g.Y.System.calls c.args.system.now) (g.Y.System.calls c.open.new.system) c.in-Err.ensures
