use Rattle.std.proofs.Common.{subst}
use Rattle.cacache_folder.{specs.{FolderNumbers.{numbered_temp}, Moves.{Persists}}, proofs.{Making.{persists_kept, persists_plain}, Answering.{temp_of}}}
use Rattle.cacache_folder.proofs.folder.runner.Runner.persist.Goals as goal

pub returns-then-is_of-clause-ran : goal.returns-then-is_of-clause-ran
returns-then-is_of-clause-ran g c =
    persists_kept (numbered_temp g.Y.System.number c.args.temp.now) c.args.temp.now.is_synced c.args.path.now c.replace_read.result
    (g.Y.System.calls c.args.self.now.system) (g.Y.System.calls c.replace_read.new.self.system) c.replace_read.ensures.ran

pub returns-else-is_of-clause-ran : goal.returns-else-is_of-clause-ran
returns-else-is_of-clause-ran g c =
    let number = g.Y.System.number c.args.temp.now.file in
    subst (λ p. Persists (temp_of number p) c.args.path.now c.rename.result (g.Y.System.calls c.args.self.now.system) (g.Y.System.calls c.rename.new.self)) c.as_str.ensures.same
    (persists_plain (temp_of number c.as_str.result.now) c.args.path.now c.rename.result (g.Y.System.calls c.args.self.now.system) (g.Y.System.calls c.rename.new.self) c.rename.ensures)
