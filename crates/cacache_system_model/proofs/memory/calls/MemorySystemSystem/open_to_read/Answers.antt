use Rattle.cacache_disk.specs.LedTo.{found}
use Rattle.cacache_system_model.proofs.{Saying.{found_say}, memory.OpenFiles.{goes_opened}}
use Rattle.cacache_system_model.proofs.memory.calls.MemorySystemSystem.open_to_read.Goals as goal

pub returns-clause-goes : goal.returns-clause-goes
returns-clause-goes c =
    goes_opened c.args.self.now.memory c.open_found-opened.new.self (found c.args.self.now.memory.disk c.args.path.now) (λ names. c.args.self.now.memory.disk) c.open_found-opened.result _
    (found_say c.args.self.now.memory.disk c.args.path.now) c.open.ensures.told c.open_found-opened.ensures
