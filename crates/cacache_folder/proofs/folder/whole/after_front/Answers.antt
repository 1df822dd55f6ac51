use Rattle.std.proofs.Common.{◌≡◌, ap}
use Rattle.std_io.specs.IoError.{error_kind}
use Rattle.cacache_system.specs.declared.call.CallResult.TheVariants as says
use Rattle.std_io.specs.declared.io.kind.ErrorKind.TheVariants as kinds
use Rattle.cacache_system.specs.Seen.{said}
use Rattle.cacache_system.specs.CallsOf as calls
use Rattle.cacache_folder.proofs.{CallRuns.{run_took, run_as}, Reading.{took_refused}, Answering.{failed_so}}
use Rattle.cacache_folder.proofs.folder.whole.after_front.Goals as goal

pub returns-in_err-bytes : goal.returns-in_err-bytes
returns-in_err-bytes g c =
    let s = calls.reading_rest c.args.front.now (g.Y.System.number c.args.file.now) in
    failed_so (λ r. calls.RunLogged (calls.taking_memory s) (said says.Bytes r) (g.Y.System.calls c.args.system.now) (g.Y.System.calls c.args.system.now))
    (λ e. error_kind e ≡ kinds.OutOfMemory) c.from_residual.result c.from_residual.ensures.1
    (λ e is. took_refused s (error_kind e) (g.Y.System.calls c.args.system.now) is)

pub returns : goal.returns
returns g c =
    let file = g.Y.System.number c.args.file.now in
    let end = said says.Bytes c.with_rest.result in
    let old = g.Y.System.calls c.args.system.now in
    let new = g.Y.System.calls c.with_rest.new.system in
    run_took (calls.reading_rest c.args.front.now file) end old new
    (run_as (calls.reading_rest c.in_ok-bytes.bytes.items file) (calls.reading_rest c.args.front.now file) end old new c.with_rest.ensures
    (ap (λ front. calls.reading_rest front file) c.in_ok-bytes.ensures))
