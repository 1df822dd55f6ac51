use Rattle.cacache_disk.specs.{declared.node.Node.TheVariants.{Folder}, Tree.{put}, LedTo.{free}}
use Rattle.cacache_system_model.proofs.{Saying.{free_say}, memory.Goings.{goes_changed}}
use Rattle.cacache_system_model.proofs.memory.calls.MemorySystemSystem.make_folder.Goals as goal

pub returns-clause-goes : goal.returns-clause-goes
returns-clause-goes c =
    goes_changed c.args.self.now.memory.disk c.make_folder-done.new.disk c.args.self.now.memory.files.items (free c.args.self.now.memory.disk c.args.path.now) (λ names. put c.args.self.now.memory.disk names Folder) c.make_folder-done.result _ (free_say c.args.self.now.memory.disk c.args.path.now)
    c.end.ensures.told c.make_folder-done.ensures
