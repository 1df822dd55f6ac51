use Rattle.std.proofs.Common.{List, refl, subst}
use Rattle.cacache_system.specs.declared.call.SystemCall.TheVariants as asks
use Rattle.cacache_system.specs.declared.call.CallResult.TheVariants as says
use Rattle.cacache_system.specs.Seen.{said}
use Rattle.cacache_system.specs.CallsOf as calls
use Rattle.cacache_folder.proofs.CallRuns.{run_call}
use Rattle.cacache_folder.proofs.folder.copying.replace_end.Goals as goal

pub returns : goal.returns
returns g c =
    let replaced = subst (λ (p : List _). calls.RunLogged (calls.place_fresh c.args.number c.args.from.now p) (said says.Count c.replace.result) (g.Y.System.calls c.real_path.new.self) (g.Y.System.calls c.replace.new.system)) c.as_str.ensures.same c.replace.ensures in
    run_call (calls.resolving c.args.number c.args.from.now c.args.to.now) (asks.RealPath c.args.to.now) (says.Bytes c.in_ok-path.path) (said says.Count c.replace.result)
    (g.Y.System.calls c.args.system.now) (g.Y.System.calls c.real_path.new.self) (g.Y.System.calls c.replace.new.system) c.in_ok-path.ensures refl replaced
