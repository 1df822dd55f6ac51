use Rattle.std.proofs.Common.{true, refl}
use Rattle.cacache_system.specs.declared.call.SystemCall.TheVariants as asks
use Rattle.cacache_system.specs.declared.call.CallResult.TheVariants as says
use Rattle.cacache_system.specs.Seen.{said}
use Rattle.cacache_system.specs.CallsOf as calls
use Rattle.cacache_folder.proofs.{CallRuns.{run_as, run_call}, Making.{chosen}}
use Rattle.cacache_folder.proofs.folder.copying.copy.Goals as goal

pub returns-then-source : goal.returns-then-source
returns-then-source g c =
    let source = c.in-Ok.source in
    let end = said says.Count c.copy_found.result in
    let mid = g.Y.System.calls c.stat.new.self in
    let new = g.Y.System.calls c.copy_found.new.system in
    run_call (calls.asking_source c.args.number c.args.from.now c.args.to.now) (asks.Stat c.args.from.now) (says.Info source) end
    (g.Y.System.calls c.args.system.now) mid new c.in-Ok.ensures refl
    (run_as (calls.asking_target c.args.number source c.args.from.now c.args.to.now) _ end mid new c.copy_found.ensures (chosen source.regular _ _ c.if-source.true))
