use Rattle.std.proofs.lemmas.Result.{err_from_is_err_and}
use Rattle.cacache_system.specs.declared.call.SystemCall.TheVariants as asks
use Rattle.cacache_system.specs.CallsOf as calls
use Rattle.cacache_folder.proofs.Making.{prepares, prepares_not}
use Rattle.cacache_folder.proofs.folder.rewriting.give_mode.Goals as goal

pub returns : goal.returns
returns g c =
    let number = g.Y.System.number c.args.temp.now.file in
    prepares (asks.SetMode number c.args.mode) (calls.sync_again c.args.temp.now.is_synced number) c.sync_again.result
    (g.Y.System.calls c.args.system.now) (g.Y.System.calls c.set_mode.new.self) (g.Y.System.calls c.sync_again.new.system) c.in_ok-set_mode.ensures c.sync_again.ensures

pub returns-in_err-set_mode : goal.returns-in_err-set_mode
returns-in_err-set_mode g c =
    let p = err_from_is_err_and c.from_residual.result c.from_residual.ensures.1 in
    rw (p.1, p.2) (prepares_not (asks.SetMode (g.Y.System.number c.args.temp.now.file) c.args.mode) (calls.sync_again c.args.temp.now.is_synced (g.Y.System.number c.args.temp.now.file)) c.in_err-set_mode.field-0.0 (g.Y.System.calls c.args.system.now) (g.Y.System.calls c.set_mode.new.self) c.in_err-set_mode.ensures)
