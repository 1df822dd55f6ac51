use Rattle.std.proofs.Common.{refl}
use Rattle.std_io.specs.IoError.{error_kind}
use Rattle.cacache_system.specs.declared.call.SystemCall.TheVariants as asks
use Rattle.cacache_system.specs.declared.call.CallResult.TheVariants as says
use Rattle.cacache_system.specs.Seen.{said}
use Rattle.cacache_system.specs.CallsOf as calls
use Rattle.cacache_folder.proofs.{CallRuns.{run_call}, Making.{scrapped}}
use Rattle.cacache_folder.proofs.folder.fresh.fill.Goals as goal

pub returns-in-Ok : goal.returns-in-Ok
returns-in-Ok g c =
    run_call (calls.filling c.args.from.now c.args.fresh.now c.args.path.now) (asks.CopyFile c.args.from.now c.args.fresh.now) (says.Count c.in-Ok.count) (said says.Count c.put.result)
    (g.Y.System.calls c.args.system.now) (g.Y.System.calls c.copy_file.new.self) (g.Y.System.calls c.put.new.system) c.in-Ok.ensures refl c.put.ensures

pub returns-in-Err : goal.returns-in-Err
returns-in-Err g c =
    let why = error_kind c.in-Err.error in
    run_call (calls.filling c.args.from.now c.args.fresh.now c.args.path.now) (asks.CopyFile c.args.from.now c.args.fresh.now) (says.Failed why) (says.Failed why)
    (g.Y.System.calls c.args.system.now) (g.Y.System.calls c.copy_file.new.self) (g.Y.System.calls c.scrap.new.system) c.in-Err.ensures refl
    (scrapped why c.args.fresh.now c.scrap.ensures.0 (g.Y.System.calls c.copy_file.new.self) (g.Y.System.calls c.scrap.new.system) c.scrap.ensures.1)
