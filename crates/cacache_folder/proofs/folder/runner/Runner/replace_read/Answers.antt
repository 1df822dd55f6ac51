use Rattle.std.proofs.{Common.{subst}, lemmas.Result.{err_from_is_err_and}}
use Rattle.cacache_system.specs.{declared.call.{SystemCall.TheVariants.{Rename}, CallResult.TheVariants.{Done}}, Seen.{MakesCall, said}}
use Rattle.cacache_folder.{specs.FolderNumbers.{numbered_temp}, proofs.Making.{rewrites_kept, rewrites_not}}
use Rattle.cacache_folder.proofs.folder.runner.Runner.replace_read.Goals as goal

pub returns-clause-ran : goal.returns-clause-ran
returns-clause-ran g c =
    rewrites_kept (numbered_temp g.Y.System.number c.args.temp.now) c.args.temp.now.is_synced c.args.path.now tt c.rename.result
    (g.Y.System.calls c.args.self.now.system) (g.Y.System.calls c.keep.new.system) (g.Y.System.calls c.rename.new.self) c.in_ok-keep.ensures
    (subst (λ p. MakesCall (g.Y.System.calls c.keep.new.system) (g.Y.System.calls c.rename.new.self) (Rename p c.args.path.now) (said (λ _. Done) c.rename.result))
    c.as_str.ensures.same c.rename.ensures)

pub returns-in_err-keep-clause-ran : goal.returns-in_err-keep-clause-ran
returns-in_err-keep-clause-ran g c =
    let p = err_from_is_err_and c.from_residual.result c.from_residual.ensures.1 in
    rw (p.1, p.2) (rewrites_not (numbered_temp g.Y.System.number c.args.temp.now) c.args.temp.now.is_synced c.args.path.now c.in_err-keep.field-0.0
    (g.Y.System.calls c.args.self.now.system) (g.Y.System.calls c.keep.new.system) c.in_err-keep.ensures)
