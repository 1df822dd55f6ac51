use Rattle.cacache_disk.specs.{declared.node.Node.TheVariants.{Link}, Tree.{put}, LedTo.{free}}
use Rattle.cacache_system_model.proofs.{Saying.{free_say}, memory.Goings.{goes_changed}}
use Rattle.cacache_system_model.proofs.memory.calls.MemorySystemSystem.symlink.Goals as goal

pub returns-clause-goes : goal.returns-clause-goes
returns-clause-goes c =
    goes_changed c.args.self.now.memory.disk c.symlink-done.new.disk c.args.self.now.memory.files.items (free c.args.self.now.memory.disk c.args.path.now) (λ names. put c.args.self.now.memory.disk names (Link c.args.target.now)) c.symlink-done.result _ (free_say c.args.self.now.memory.disk c.args.path.now)
    c.end.ensures.told c.symlink-done.ensures
