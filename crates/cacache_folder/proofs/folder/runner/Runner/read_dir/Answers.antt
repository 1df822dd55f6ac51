use Rattle.std_io.specs.IoError.{error_kind}
use Rattle.cacache_folder.proofs.ListedFolders.{lists_run, lists_failed}
use Rattle.cacache_folder.proofs.folder.runner.Runner.read_dir.Goals as goal

pub returns-in-Ok-clause-ran : goal.returns-in-Ok-clause-ran
returns-in-Ok-clause-ran g c =
    lists_run c.args.path.now (λ names. names.items) c.in-Ok.names c.new.result
    (g.Y.System.calls c.args.self.now.system) (g.Y.System.calls c.names_in.new.system) c.in-Ok.ensures.ran c.new.ensures

pub returns-in-Err-clause-ran : goal.returns-in-Err-clause-ran
returns-in-Err-clause-ran g c =
    lists_failed c.args.path.now c.in-Err.why (error_kind c.from.result)
    (g.Y.System.calls c.args.self.now.system) (g.Y.System.calls c.names_in.new.system) c.in-Err.ensures.ran c.from.ensures
