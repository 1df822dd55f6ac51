use Rattle.std.proofs.Common.{refl}
use Rattle.cacache_system.specs.declared.call.SystemCall.TheVariants as asks
use Rattle.cacache_system.specs.declared.call.CallResult.TheVariants as says
use Rattle.cacache_system.specs.Seen.{said}
use Rattle.cacache_system.specs.CallsOf as calls
use Rattle.cacache_folder.proofs.CallRuns.{run_call, insists_run}
use Rattle.cacache_folder.proofs.folder.files.append.Goals as goal

pub returns-clause-ran : goal.returns-clause-ran
returns-clause-ran g c =
    let path = c.args.path.now in
    let bytes = c.args.bytes.now in
    let file = g.Y.System.number c.in_ok-file.file in
    let end = said says.Count c.ask_to_write.result in
    let old = g.Y.System.calls c.args.system.now in
    let mid = g.Y.System.calls c.open_to_append.new.self in
    let new = g.Y.System.calls c.ask_to_write.new.system in
    run_call (calls.appending path bytes) (asks.OpenToAppend path) (says.Opened file) end old mid new c.in_ok-file.ensures refl
    (insists_run (asks.Write file bytes) end mid new c.ask_to_write.ensures.made)
