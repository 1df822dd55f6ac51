use Rattle.std.proofs.{Common.{List, subst}, lemmas.Result.{err_from_is_err_and}}
use Rattle.cacache_system.specs.declared.call.CallResult.TheVariants as says
use Rattle.cacache_system.specs.Seen.{said}
use Rattle.cacache_system.specs.CallsOf as calls
use Rattle.cacache_folder.proofs.CallRuns.{calls_run}
use Rattle.cacache_folder.proofs.folder.fresh.replace.Goals as goal

pub returns : goal.returns
returns g c =
    let from = c.args.from.now in
    let path = c.args.path.now in
    let filled = subst (λ (p : List _). calls.RunLogged (calls.filling c.args.from.now p c.args.path.now) (said says.Count c.fill.result) (g.Y.System.calls c.make_fresh.new.system) (g.Y.System.calls c.fill.new.system)) c.as_str.ensures.same c.fill.ensures in
    calls_run (calls.place_fresh c.args.number from path) (calls.filling from c.in_ok-fresh.fresh path) (said says.Count c.fill.result)
    (g.Y.System.calls c.args.system.now) (g.Y.System.calls c.make_fresh.new.system) (g.Y.System.calls c.fill.new.system) (c.in_ok-fresh.ensures from) filled

pub returns-in_err-fresh : goal.returns-in_err-fresh
returns-in_err-fresh g c =
    let p = err_from_is_err_and c.from_residual.result c.from_residual.ensures.1 in
    rw (p.1, p.2) (c.in_err-fresh.ensures c.args.from.now)
