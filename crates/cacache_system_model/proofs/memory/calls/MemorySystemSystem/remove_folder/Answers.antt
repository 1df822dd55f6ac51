use Rattle.std.specs.Prelude.{None}
use Rattle.cacache_disk.specs.{Tree.{cut}, LedTo.{emptied}}
use Rattle.cacache_system_model.proofs.{Saying.{emptied_say}, memory.Goings.{goes_displaced}}
use Rattle.cacache_system_model.proofs.memory.calls.MemorySystemSystem.remove_folder.Goals as goal

pub returns-clause-goes : goal.returns-clause-goes
returns-clause-goes c =
    goes_displaced (emptied c.args.self.now.memory.disk c.args.path.now) (cut c.args.self.now.memory.disk) None c.args.self.now.memory c.remove_folder-done.new.self c.remove_folder-done.result _
    (emptied_say c.args.self.now.memory.disk c.args.path.now) c.end.ensures.told c.remove_folder-done.ensures.displaces
