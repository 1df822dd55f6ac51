use Rattle.std.proofs.Common.{inl}
use Rattle.cacache_system_model.proofs.memory.OpenFiles.{goes_shown_open}
use Rattle.cacache_system_model.proofs.memory.calls.MemorySystemSystem.stat_file.Goals as goal

pub returns-clause-goes : goal.returns-clause-goes
returns-clause-goes c =
    inl (goes_shown_open c.args.file.now.number c.args.self.now.memory _ c.shown_open-info.result c.tell.ensures.told c.shown_open-info.ensures)
