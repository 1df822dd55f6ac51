use Rattle.cacache_disk.specs.LedTo.{found}
use Rattle.cacache_system_model.proofs.{Saying.{found_say}, memory.Goings.{goes_shown}}
use Rattle.cacache_system_model.proofs.memory.calls.MemorySystemSystem.stat.Goals as goal

pub returns-clause-goes : goal.returns-clause-goes
returns-clause-goes c =
    goes_shown c.args.self.now.memory.disk c.args.self.now.memory.files.items (found c.args.self.now.memory.disk c.args.path.now) c.shown-info.result _ (found_say c.args.self.now.memory.disk c.args.path.now) c.tell.ensures.told c.shown-info.ensures
