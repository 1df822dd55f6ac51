use Rattle.std.proofs.Common.{refl}
use Rattle.cacache_system.specs.declared.call.SystemCall.TheVariants as asks
use Rattle.cacache_system.specs.declared.call.CallResult.TheVariants as says
use Rattle.cacache_system.specs.Seen.{said}
use Rattle.cacache_system.specs.CallsOf as calls
use Rattle.cacache_folder.proofs.CallRuns.{run_call}
use Rattle.cacache_folder.proofs.folder.copying.make_end.Goals as goal

pub returns : goal.returns
returns g c =
    run_call (calls.making_end c.args.number c.args.from.now c.args.to.now) (asks.OpenToAppend c.args.to.now) (says.Opened (g.Y.System.number c.in_ok-file.file)) (said says.Count c.replace_end.result)
    (g.Y.System.calls c.args.system.now) (g.Y.System.calls c.open_to_append.new.self) (g.Y.System.calls c.replace_end.new.system) c.in_ok-file.ensures refl c.replace_end.ensures
