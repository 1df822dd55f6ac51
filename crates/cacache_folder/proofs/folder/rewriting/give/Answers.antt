use Rattle.std.proofs.lemmas.Result.{err_from_is_err_and}
use Rattle.cacache_system.specs.declared.call.SystemCall.TheVariants as asks
use Rattle.cacache_system.specs.CallsOf as calls
use Rattle.cacache_folder.proofs.Making.{prepares, prepares_not}
use Rattle.cacache_folder.proofs.folder.rewriting.give.Goals as goal

pub returns : goal.returns
returns g c =
    let number = g.Y.System.number c.args.temp.now.file in
    let info = c.args.info.now in
    prepares (asks.SetOwner number info.owner info.group) (calls.give_mode number c.args.temp.now.is_synced info.mode) c.give_mode.result
    (g.Y.System.calls c.args.system.now) (g.Y.System.calls c.set_owner.new.self) (g.Y.System.calls c.give_mode.new.system) c.in_ok-set_owner.ensures c.give_mode.ensures

pub returns-in_err-set_owner : goal.returns-in_err-set_owner
returns-in_err-set_owner g c =
    let number = g.Y.System.number c.args.temp.now.file in
    let info = c.args.info.now in
    let p = err_from_is_err_and c.from_residual.result c.from_residual.ensures.1 in
    rw (p.1, p.2) (prepares_not (asks.SetOwner number info.owner info.group) (calls.give_mode number c.args.temp.now.is_synced info.mode) c.in_err-set_owner.field-0.0 (g.Y.System.calls c.args.system.now) (g.Y.System.calls c.set_owner.new.self) c.in_err-set_owner.ensures)
