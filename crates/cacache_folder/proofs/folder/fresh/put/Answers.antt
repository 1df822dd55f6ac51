use Rattle.std.proofs.Common.{refl}
use Rattle.std_io.specs.IoError.{error_kind}
use Rattle.cacache_system.specs.declared.call.SystemCall.TheVariants as asks
use Rattle.cacache_system.specs.declared.call.CallResult.TheVariants as says
use Rattle.cacache_system.specs.CallsOf as calls
use Rattle.cacache_folder.proofs.{CallRuns.{run_call}, Making.{scrapped}}
use Rattle.cacache_folder.proofs.folder.fresh.put.Goals as goal

pub returns-in-Err : goal.returns-in-Err
returns-in-Err g c =
    let why = error_kind c.in-Err.error in
    run_call (calls.replacing c.args.count c.args.fresh.now c.args.path.now) (asks.Rename c.args.fresh.now c.args.path.now) (says.Failed why) (says.Failed why)
    (g.Y.System.calls c.args.system.now) (g.Y.System.calls c.rename.new.self) (g.Y.System.calls c.scrap.new.system) c.in-Err.ensures refl
    (scrapped why c.args.fresh.now c.scrap.ensures.0 (g.Y.System.calls c.rename.new.self) (g.Y.System.calls c.scrap.new.system) c.scrap.ensures.1)
