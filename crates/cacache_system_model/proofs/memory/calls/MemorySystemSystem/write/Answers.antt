use Rattle.std.{proofs.Common.{refl}, specs.Prelude.{Ok}}
use Rattle.cacache_system_model.proofs.memory.OpenFiles.{goes_written}
use Rattle.cacache_system_model.proofs.memory.calls.MemorySystemSystem.write.Goals as goal

pub returns-in-Ok-clause-goes : goal.returns-in-Ok-clause-goes
returns-in-Ok-clause-goes c =
    goes_written c.args.file.now.number c.args.self.now.memory c.append.new.self _ c.args.buf.now (Ok c.in-Ok.count) refl c.in-Ok.ensures
