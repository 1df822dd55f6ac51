use Rattle.std.proofs.Common.{inl}
use Rattle.cacache_system_model.proofs.memory.OpenFiles.{goes_rights}
use Rattle.cacache_system_model.proofs.memory.calls.MemorySystemSystem.set_owner.Goals as goal

pub returns-clause-goes : goal.returns-clause-goes
returns-clause-goes c =
    inl (goes_rights c.args.file.now.number c.args.self.now.memory _ c.give_rights-done.result c.end.ensures.told c.give_rights-done.ensures)
