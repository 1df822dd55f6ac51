use Rattle.std.proofs.Common.{◌≡◌, true, refl, sym, ap, ◌∙◌}
use Rattle.std_io.specs.IoError.{error_kind}
use Rattle.cacache_system.specs.declared.call.SystemCall.TheVariants as asks
use Rattle.cacache_system.specs.declared.call.CallResult.TheVariants as says
use Rattle.cacache_system.specs.Seen.{said}
use Rattle.cacache_system.specs.CallsOf as calls
use Rattle.cacache_folder.proofs.{CallRuns.{run_as, run_call}, Making.{chosen}}
use Rattle.cacache_folder.proofs.folder.copying.copy_through.Goals as goal

pub returns-in-Ok : goal.returns-in-Ok
returns-in-Ok g c =
    run_call (calls.asking_end c.args.number c.args.source.now c.args.from.now c.args.to.now) (asks.Stat c.args.to.now) (says.Info c.in-Ok.target) (said says.Count c.copy_over.result)
    (g.Y.System.calls c.args.system.now) (g.Y.System.calls c.stat.new.self) (g.Y.System.calls c.copy_over.new.system) c.in-Ok.ensures refl c.copy_over.ensures

pub returns-then-is_absent : goal.returns-then-is_absent
returns-then-is_absent g c =
    let why = error_kind c.in-Err.error in
    let made = calls.making_end c.args.number c.args.from.now c.args.to.now in
    let mid = g.Y.System.calls c.stat.new.self in
    let new = g.Y.System.calls c.make_end.new.system in
    let absent : calls.is_absent why ≡ true = sym (ap calls.is_absent c.kind.ensures) ∙ sym c.is_absent.ensures ∙ c.if-is_absent.true in
    run_call (calls.asking_end c.args.number c.args.source.now c.args.from.now c.args.to.now) (asks.Stat c.args.to.now) (says.Failed why) (said says.Count c.make_end.result)
    (g.Y.System.calls c.args.system.now) mid new c.in-Err.ensures refl
    (run_as made _ (said says.Count c.make_end.result) mid new c.make_end.ensures (chosen (calls.is_absent why) made (calls.over (says.Failed why)) absent))
