use Rattle.cacache_disk.specs.{Tree.{cut}, LedTo.{emptied}}
use Rattle.std.specs.Prelude.{None}
use Rattle.cacache_system_model.proofs.memory.Displacing.{done_at, emptied_there}
use Rattle.cacache_system_model.proofs.memory.state.Memory.remove_folder.Goals as goal

pub returns-clause-displaces : goal.returns-clause-displaces
returns-clause-displaces c =
    done_at (emptied c.args.self.now.disk c.args.path.now) (cut c.args.self.now.disk) None c.in_ok-names.names c.args.self.now
    (record { alloc = c.args.self.now.alloc; disk = c.remove_folder.new.disk; files = c.in_ok-files.files; marks = c.args.self.now.marks })
    (λ found e. emptied_there c.args.self.now.disk c.args.path.now c.in_ok-names.names found c.in_ok-names.ensures.ok e) c.in_ok-remove_folder.ensures c.in_ok-files.ensures
