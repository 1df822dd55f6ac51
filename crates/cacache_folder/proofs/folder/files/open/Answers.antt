use Rattle.std.proofs.Common.{refl, sym, ap, ◌∙◌}
use Rattle.std_io.specs.IoError.{error_kind}
use Rattle.cacache_system.specs.declared.call.CallResult.TheVariants as says
use Rattle.cacache_system.specs.CallsOf as calls
use Rattle.cacache_folder.proofs.CallRuns.{calls_over}
use Rattle.cacache_folder.proofs.folder.files.open.Goals as goal

pub returns-in-None : goal.returns-in-None
returns-in-None g c =
    let end = says.Opened (g.Y.System.number c.in-Ok.file) in
    calls_over (calls.opening calls.to_give c.args.path.now) _ end
    (g.Y.System.calls c.args.system.now) (g.Y.System.calls c.opened.new.system) (c.in-Ok.ensures calls.to_give) (c.in-None.ensures (calls.over end))

pub returns-in-Some : goal.returns-in-Some
returns-in-Some g c =
    calls_over (calls.opening calls.to_give c.args.path.now) _ (says.Failed (error_kind c.from.result))
    (g.Y.System.calls c.args.system.now) (g.Y.System.calls c.opened.new.system) (c.in-Ok.ensures calls.to_give)
    (c.in-Some.ensures (calls.over (says.Opened (g.Y.System.number c.in-Ok.file))) ∙ ap (λ why. calls.over (says.Failed why)) (sym c.from.ensures))

pub returns-in-Err : goal.returns-in-Err
returns-in-Err g c =
    calls_over (calls.opening calls.to_give c.args.path.now) _ (says.Failed (error_kind c.in-Err.error))
    (g.Y.System.calls c.args.system.now) (g.Y.System.calls c.opened.new.system) (c.in-Err.ensures calls.to_give) refl
