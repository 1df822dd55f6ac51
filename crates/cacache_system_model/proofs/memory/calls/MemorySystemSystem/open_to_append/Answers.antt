use Rattle.cacache_disk.specs.LedTo.{writable}
use Rattle.cacache_system_model.{specs.Machine.{with_empty}, proofs.{Saying.{writable_say}, memory.OpenFiles.{goes_opened}}}
use Rattle.cacache_system_model.proofs.memory.calls.MemorySystemSystem.open_to_append.Goals as goal

pub returns-clause-goes : goal.returns-clause-goes
returns-clause-goes c =
    goes_opened c.args.self.now.memory c.open_written-opened.new.self (writable c.args.self.now.memory.disk c.args.path.now) (with_empty c.args.self.now.memory.disk) c.open_written-opened.result _
    (writable_say c.args.self.now.memory.disk c.args.path.now) c.open.ensures.told c.open_written-opened.ensures
