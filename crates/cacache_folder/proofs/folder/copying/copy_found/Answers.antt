use Rattle.std.proofs.Common.{◌≡◌, true, false, refl, sym, ap, ◌∙◌}
use Rattle.std_io.specs.IoError.{error_kind}
use Rattle.cacache_system.specs.declared.call.SystemCall.TheVariants as asks
use Rattle.cacache_system.specs.declared.call.CallResult.TheVariants as says
use Rattle.cacache_system.specs.Seen.{said}
use Rattle.cacache_system.specs.CallsOf as calls
use Rattle.cacache_folder.proofs.{CallRuns.{run_as, run_call}, Making.{chosen, passed_over}}
use Rattle.cacache_folder.proofs.folder.copying.copy_found.Goals as goal

pub returns-then-is_link : goal.returns-then-is_link
returns-then-is_link g c =
    let source = c.args.source.now in
    let target = c.in-Ok.target in
    let end = said says.Count c.copy_through.result in
    let mid = g.Y.System.calls c.stat_link.new.self in
    let new = g.Y.System.calls c.copy_through.new.system in
    let link : calls.is_link target.kind ≡ true = sym c.is_link.ensures ∙ c.if-is_link.true in
    run_call (calls.asking_target c.args.number source c.args.from.now c.args.to.now) (asks.StatLink c.args.to.now) (says.Info target) end
    (g.Y.System.calls c.args.system.now) mid new c.in-Ok.ensures refl
    (run_as (calls.asking_end c.args.number source c.args.from.now c.args.to.now) _ end mid new c.copy_through.ensures (chosen (calls.is_link target.kind) _ (calls.copied c.args.number false source target c.args.from.now c.args.to.now) link))

pub returns-else-is_link : goal.returns-else-is_link
returns-else-is_link g c =
    let source = c.args.source.now in
    let target = c.in-Ok.target in
    let end = said says.Count c.copy_over.result in
    let mid = g.Y.System.calls c.stat_link.new.self in
    let new = g.Y.System.calls c.copy_over.new.system in
    let other : calls.is_link target.kind ≡ false = sym c.is_link.ensures ∙ c.if-is_link.false in
    run_call (calls.asking_target c.args.number source c.args.from.now c.args.to.now) (asks.StatLink c.args.to.now) (says.Info target) end
    (g.Y.System.calls c.args.system.now) mid new c.in-Ok.ensures refl
    (run_as (calls.copied c.args.number false source target c.args.from.now c.args.to.now) _ end mid new c.copy_over.ensures (passed_over (calls.is_link target.kind) (calls.asking_end c.args.number source c.args.from.now c.args.to.now) _ other))

pub returns-then-is_absent : goal.returns-then-is_absent
returns-then-is_absent g c =
    let why = error_kind c.in-Err.error in
    let end = said says.Count c.replace.result in
    let placed = calls.place_fresh c.args.number c.args.from.now c.args.to.now in
    let mid = g.Y.System.calls c.stat_link.new.self in
    let new = g.Y.System.calls c.replace.new.system in
    let absent : calls.is_absent why ≡ true = sym (ap calls.is_absent c.kind.ensures) ∙ sym c.is_absent.ensures ∙ c.if-is_absent.true in
    run_call (calls.asking_target c.args.number c.args.source.now c.args.from.now c.args.to.now) (asks.StatLink c.args.to.now) (says.Failed why) end
    (g.Y.System.calls c.args.system.now) mid new c.in-Err.ensures refl
    (run_as placed _ end mid new c.replace.ensures (chosen (calls.is_absent why) placed (calls.over (says.Failed why)) absent))
