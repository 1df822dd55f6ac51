use Rattle.cacache_system_model.proofs.{Saying.{place_say, replaceable_say}, memory.Goings.{goes_moved}}
use Rattle.cacache_system_model.proofs.memory.calls.MemorySystemSystem.rename.Goals as goal

pub returns-clause-goes : goal.returns-clause-goes
returns-clause-goes c =
    goes_moved c.args.self.now.memory c.rename-done.new.self c.args.from.now c.args.to.now c.rename-done.result _
    (place_say c.args.self.now.memory.disk c.args.from.now) (replaceable_say c.args.self.now.memory.disk c.args.to.now) c.end.ensures.told c.rename-done.ensures.moves
