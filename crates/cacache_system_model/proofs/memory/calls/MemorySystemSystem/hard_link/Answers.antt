use Rattle.cacache_disk.specs.LedTo.{free, linked}
use Rattle.cacache_system_model.proofs.{Saying.{free_say, linked_say}, memory.Goings.{goes_linked}}
use Rattle.cacache_system_model.proofs.memory.calls.MemorySystemSystem.hard_link.Goals as goal

pub returns-clause-goes : goal.returns-clause-goes
returns-clause-goes c =
    goes_linked c.args.self.now.memory.disk c.hard_link-done.new.disk c.args.self.now.memory.files.items (linked c.args.self.now.memory.disk c.args.from.now) (free c.args.self.now.memory.disk c.args.to.now) c.hard_link-done.result _
    (linked_say c.args.self.now.memory.disk c.args.from.now (free c.args.self.now.memory.disk c.args.to.now) (free_say c.args.self.now.memory.disk c.args.to.now)) (free_say c.args.self.now.memory.disk c.args.to.now) c.end.ensures.told c.hard_link-done.ensures
