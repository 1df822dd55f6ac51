use Rattle.std.proofs.Common.{refl}
use Rattle.std_io.specs.IoError.{error_kind}
use Rattle.cacache_system.specs.declared.call.SystemCall.TheVariants as asks
use Rattle.cacache_system.specs.declared.call.CallResult.TheVariants as says
use Rattle.cacache_system.specs.CallsOf as calls
use Rattle.cacache_folder.proofs.CallRuns.{calls_on, calls_one}
use Rattle.cacache_folder.proofs.folder.files.opened.Goals as goal

pub returns-in-Ok-stat_file : goal.returns-in-Ok-stat_file
returns-in-Ok-stat_file g c =
    λ purpose.
    let path = c.args.path.now in
    let file = g.Y.System.number c.in-Ok.file in
    let info = c.in-Ok-stat_file.info in
    let old = g.Y.System.calls c.args.system.now in
    let mid = g.Y.System.calls c.open_to_read.new.self in
    let new = g.Y.System.calls c.stat_file.new.self in
    calls_on (calls.opening purpose path) (calls.checking purpose file) (calls.opened purpose file info) old mid new
    (calls_one (calls.opening purpose path) (calls.checking purpose file) (asks.OpenToRead path) (says.Opened file) old mid c.in-Ok.ensures refl refl)
    (calls_one (calls.checking purpose file) (calls.opened purpose file info) (asks.StatFile file) (says.Info info) mid new c.in-Ok-stat_file.ensures refl refl)

pub returns-in-Err-stat_file : goal.returns-in-Err-stat_file
returns-in-Err-stat_file g c =
    λ purpose.
    let path = c.args.path.now in
    let file = g.Y.System.number c.in-Ok.file in
    let end = says.Failed (error_kind c.in-Err-stat_file.error) in
    let old = g.Y.System.calls c.args.system.now in
    let mid = g.Y.System.calls c.open_to_read.new.self in
    let new = g.Y.System.calls c.stat_file.new.self in
    calls_on (calls.opening purpose path) (calls.checking purpose file) (calls.over end) old mid new
    (calls_one (calls.opening purpose path) (calls.checking purpose file) (asks.OpenToRead path) (says.Opened file) old mid c.in-Ok.ensures refl refl)
    (calls_one (calls.checking purpose file) (calls.over end) (asks.StatFile file) end mid new c.in-Err-stat_file.ensures refl refl)
