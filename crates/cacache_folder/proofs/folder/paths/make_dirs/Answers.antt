use Rattle.std.proofs.Common.{[], false}
use Rattle.cacache_system.specs.CallsOf.{making, standing}
use Rattle.cacache_folder.proofs.Making.{dirs_run, guessed, not_guessed}
use Rattle.cacache_folder.proofs.folder.paths.make_dirs.Goals as goal

pub returns-then-is_guessed : goal.returns-then-is_guessed
returns-then-is_guessed g c =
    dirs_run (making false c.args.path.now []) _ c.make_missing.result
    (g.Y.System.calls c.args.system.now) (g.Y.System.calls c.make_missing.new.system) (c.make_missing.ensures [])
    (guessed c.args.path.now c.args.is_guessed c.if-is_guessed.true)

pub returns-else-is_guessed : goal.returns-else-is_guessed
returns-else-is_guessed g c =
    dirs_run (standing c.args.path.now) _ c.ask_first.result
    (g.Y.System.calls c.args.system.now) (g.Y.System.calls c.ask_first.new.system) c.ask_first.ensures
    (not_guessed c.args.path.now c.args.is_guessed c.if-is_guessed.false)
