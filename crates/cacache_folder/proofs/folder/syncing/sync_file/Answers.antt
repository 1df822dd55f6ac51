use Rattle.std.proofs.Common.{refl, sym, ap, ◌∙◌}
use Rattle.std_io.specs.IoError.{error_kind}
use Rattle.cacache_system.specs.declared.call.SystemCall.TheVariants as asks
use Rattle.cacache_system.specs.declared.call.CallResult.TheVariants as says
use Rattle.cacache_system.specs.Seen.{said}
use Rattle.cacache_system.specs.CallsOf as calls
use Rattle.cacache_folder.proofs.CallRuns.{calls_as, calls_over, calls_run, run_one}
use Rattle.cacache_folder.proofs.folder.syncing.sync_file.Goals as goal

pub returns-in-None : goal.returns-in-None
returns-in-None g c =
    let call = asks.Sync (g.Y.System.number c.in-Ok.file) in
    let end = said (λ _. says.Done) c.sync.result in
    let old = g.Y.System.calls c.args.system.now in
    let mid = g.Y.System.calls c.opened.new.system in
    let new = g.Y.System.calls c.sync.new.self in
    calls_run (calls.opening calls.to_sync c.args.path.now) (calls.only call) end old mid new
    (calls_as (calls.opening calls.to_sync c.args.path.now) _ (calls.only call) old mid
    (c.in-Ok.ensures calls.to_sync) (c.in-None.ensures (calls.only call)))
    (run_one (calls.only call) call end end mid new c.sync.ensures refl refl)

pub returns-in-Ok : goal.returns-in-Ok
returns-in-Ok g c =
    calls_over (calls.opening calls.to_sync c.args.path.now) _ (says.Failed (error_kind c.from.result))
    (g.Y.System.calls c.args.system.now) (g.Y.System.calls c.opened.new.system) (c.in-Ok.ensures calls.to_sync)
    (c.in-Some.ensures (calls.only (asks.Sync (g.Y.System.number c.in-Ok.file))) ∙ ap (λ why. calls.over (says.Failed why)) (sym c.from.ensures))

pub returns : goal.returns
returns g c =
    calls_over (calls.opening calls.to_sync c.args.path.now) _ (says.Failed (error_kind c.in-Err.error))
    (g.Y.System.calls c.args.system.now) (g.Y.System.calls c.opened.new.system) (c.in-Err.ensures calls.to_sync) refl
