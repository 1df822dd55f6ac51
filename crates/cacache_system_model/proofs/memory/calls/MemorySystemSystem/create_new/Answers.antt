use Rattle.std.specs.Prelude.{[]}
use Rattle.cacache_disk.specs.{declared.node.Node.TheVariants.{File}, Tree.{put}, LedTo.{free}}
use Rattle.cacache_system_model.proofs.{Saying.{free_say}, memory.OpenFiles.{goes_opened}}
use Rattle.cacache_system_model.proofs.memory.calls.MemorySystemSystem.create_new.Goals as goal

pub returns-clause-goes : goal.returns-clause-goes
returns-clause-goes c =
    goes_opened c.args.self.now.memory c.create-opened.new.self (free c.args.self.now.memory.disk c.args.path.now) (λ names. put c.args.self.now.memory.disk names (File [])) c.create-opened.result _
    (free_say c.args.self.now.memory.disk c.args.path.now) c.open.ensures.told c.create-opened.ensures
