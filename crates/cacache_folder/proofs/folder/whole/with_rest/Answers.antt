use Rattle.std.proofs.Common.{◌≡◌, refl}
use Rattle.std_io.specs.IoError.{error_kind}
use Rattle.cacache_system.specs.declared.call.SystemCall.TheVariants as asks
use Rattle.cacache_system.specs.declared.call.CallResult.TheVariants as says
use Rattle.std_io.specs.declared.io.kind.ErrorKind.TheVariants as kinds
use Rattle.cacache_system.specs.Seen.{said}
use Rattle.cacache_system.specs.CallsOf as calls
use Rattle.cacache_folder.proofs.{Reading.{rest_run, rest_refused}, CallRuns.{run_one}, Answering.{failed_as, failed_so}}
use Rattle.cacache_folder.proofs.folder.whole.with_rest.Goals as goal

pub returns-in_err-read_rest : goal.returns-in_err-read_rest
returns-in_err-read_rest g c =
    failed_as (λ r. calls.RunLogged (calls.reading_rest c.args.front.items (g.Y.System.number c.args.file.now)) (said says.Bytes r) (g.Y.System.calls c.args.system.now) (g.Y.System.calls c.read_rest.new.self))
    c.from_residual.result c.in_err-read_rest.field-0.0 c.from_residual.ensures.1
    (run_one (calls.reading_rest c.args.front.items (g.Y.System.number c.args.file.now)) (asks.ReadRest (g.Y.System.number c.args.file.now)) (says.Failed (error_kind c.in_err-read_rest.field-0.0)) (says.Failed (error_kind c.in_err-read_rest.field-0.0))
    (g.Y.System.calls c.args.system.now) (g.Y.System.calls c.read_rest.new.self) c.in_err-read_rest.ensures.logged refl refl)

pub returns-in_err-new : goal.returns-in_err-new
returns-in_err-new g c =
    failed_so (λ r. calls.RunLogged (calls.reading_rest c.args.front.items (g.Y.System.number c.args.file.now)) (said says.Bytes r) (g.Y.System.calls c.args.system.now) (g.Y.System.calls c.read_rest.new.self))
    (λ e. error_kind e ≡ kinds.OutOfMemory) c.from_residual-in_err-new.result c.from_residual-in_err-new.ensures.1
    (λ e is. rest_refused c.args.front.items c.read_rest.new.bytes.items (g.Y.System.number c.args.file.now) (error_kind e) (g.Y.System.calls c.args.system.now) (g.Y.System.calls c.read_rest.new.self)
    c.in_ok-read_rest.ensures.logged is)

pub returns : goal.returns
returns g c =
    rest_run c.args.front.items c.read_rest.new.bytes.items c.in_ok-new.field-0 (g.Y.System.number c.args.file.now) (g.Y.System.calls c.args.system.now) (g.Y.System.calls c.read_rest.new.self)
    c.in_ok-read_rest.ensures.logged c.in_ok-read_rest.ensures.appends c.in_ok-new.ensures
