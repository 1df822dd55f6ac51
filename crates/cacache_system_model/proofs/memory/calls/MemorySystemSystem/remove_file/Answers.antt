use Rattle.std.specs.Prelude.{None}
use Rattle.cacache_disk.specs.{Tree.{cut}, LedTo.{removable}}
use Rattle.cacache_system_model.proofs.{Saying.{removable_say}, memory.Goings.{goes_displaced}}
use Rattle.cacache_system_model.proofs.memory.calls.MemorySystemSystem.remove_file.Goals as goal

pub returns-clause-goes : goal.returns-clause-goes
returns-clause-goes c =
    goes_displaced (removable c.args.self.now.memory.disk c.args.path.now) (cut c.args.self.now.memory.disk) None c.args.self.now.memory c.remove_file-done.new.self c.remove_file-done.result _
    (removable_say c.args.self.now.memory.disk c.args.path.now) c.end.ensures.told c.remove_file-done.ensures.displaces
