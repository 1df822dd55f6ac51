use Rattle.std.proofs.Common.{◌≡◌, false, refl, sym, ap, ◌∙◌}
use Rattle.std_io.specs.IoError.{error_kind}
use Rattle.cacache_system.specs.declared.call.SystemCall.TheVariants as asks
use Rattle.cacache_system.specs.declared.call.CallResult.TheVariants as says
use Rattle.cacache_system.specs.CallsOf.{making, confirming, below, is_absent}
use Rattle.cacache_folder.{specs.Goings.{made, onward}, proofs.{CallRuns.{calls_as, calls_on, calls_one}, Making.{making_confirms, sure_made}}}
use Rattle.cacache_folder.proofs.folder.paths.make_dir.Goals as goal

pub returns-else-is_absent : goal.returns-else-is_absent
returns-else-is_absent g c =
    λ again todo.
    let path = c.args.path.now in
    let why = error_kind c.in-Err.error in
    let old = g.Y.System.calls c.args.system.now in
    let mid = g.Y.System.calls c.make_folder.new.self in
    let new = g.Y.System.calls c.confirm.new.system in
    let never : is_absent why ≡ false = sym (ap is_absent c.kind.ensures) ∙ sym c.is_absent.ensures ∙ c.if-is_absent.false in
    let sure = onward (λ _. below todo) c.confirm.result in
    calls_as (making again path todo) sure (made again path todo c.confirm.result) old new
    (calls_on (making again path todo) (confirming why path todo) sure old mid new
    (calls_one (making again path todo) (confirming why path todo) (asks.MakeFolder path) (says.Failed why) old mid c.in-Err.ensures refl
    (making_confirms again path todo why never))
    (c.confirm.ensures.gone todo))
    (sure_made again path todo c.confirm.result c.confirm.ensures.kinds)
