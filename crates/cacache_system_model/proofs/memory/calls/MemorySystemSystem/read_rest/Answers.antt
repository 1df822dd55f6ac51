use Rattle.std.{proofs.Common.{refl}, specs.{Prelude.{Ok}, Io.{appended_bytes}}}
use Rattle.cacache_system_model.proofs.memory.OpenFiles.{goes_read}
use Rattle.cacache_system_model.proofs.memory.calls.MemorySystemSystem.read_rest.Goals as goal

pub returns-in-Ok-clause-goes : goal.returns-in-Ok-clause-goes
returns-in-Ok-clause-goes c =
    goes_read c.args.file.now.number c.args.self.now.memory c.read_all.new.self _ (λ rest. rest) (λ _. appended_bytes c.args.bytes.now.items c.read_all.new.bytes.items) (Ok c.in-Ok.count) refl c.in-Ok.ensures.reads
