use Rattle.cacache_disk.specs.LedTo.{standing}
use Rattle.cacache_system_model.proofs.{Saying.{standing_say}, memory.Goings.{goes_shown}}
use Rattle.cacache_system_model.proofs.memory.calls.MemorySystemSystem.stat_link.Goals as goal

pub returns-clause-goes : goal.returns-clause-goes
returns-clause-goes c =
    goes_shown c.args.self.now.memory.disk c.args.self.now.memory.files.items (standing c.args.self.now.memory.disk c.args.path.now) c.shown_link-info.result _ (standing_say c.args.self.now.memory.disk c.args.path.now) c.tell.ensures.told c.shown_link-info.ensures
