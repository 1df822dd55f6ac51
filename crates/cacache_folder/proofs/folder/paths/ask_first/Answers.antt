use Rattle.std.proofs.Common.{◌≡◌, true, false, [], refl, sym, ap, ◌∙◌}
use Rattle.std_io.specs.IoError.{error_kind}
use Rattle.cacache_system.specs.declared.call.SystemCall.TheVariants as asks
use Rattle.cacache_system.specs.declared.call.CallResult.TheVariants as says
use Rattle.cacache_system.specs.CallsOf.{over, making, standing, is_absent}
use Rattle.cacache_folder.{specs.Goings.{onward}, proofs.{CallRuns.{calls_on, calls_one}, Making.{standing_makes}}}
use Rattle.cacache_folder.proofs.folder.paths.ask_first.Goals as goal

pub returns-then-is_absent : goal.returns-then-is_absent
returns-then-is_absent g c =
    let path = c.args.path.now in
    let why = error_kind c.in-Err.error in
    let old = g.Y.System.calls c.args.system.now in
    let mid = g.Y.System.calls c.stat.new.self in
    let new = g.Y.System.calls c.make_missing.new.system in
    let absent : is_absent why ≡ true = sym (ap is_absent c.kind.ensures) ∙ sym c.is_absent.ensures ∙ c.if-is_absent.true in
    calls_on (standing path) (making false path []) (onward (λ _. over says.Done) c.make_missing.result) old mid new
    (calls_one (standing path) (making false path []) (asks.Stat path) (says.Failed why) old mid c.in-Err.ensures refl (standing_makes path why absent))
    (c.make_missing.ensures [])
