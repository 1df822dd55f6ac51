use Rattle.std.{proofs.Common.{ap}, specs.Prelude.{Err}}
use Rattle.cacache_core.specs.declared.errors.Fault.TheVariants.{InvalidInput}
use Rattle.cacache_disk.specs.LedTo.{leads, file_at, writable}
use Rattle.cacache_system.specs.declared.call.CallResult.TheVariants.{Failed}
use Rattle.cacache_system_model.{specs.Calls.{brought}, proofs.{Saying.{file_say, writable_say}, Meetings.{brought_say}, memory.OpenFiles.{goes_copied}}}
use Rattle.cacache_system_model.proofs.memory.calls.MemorySystemSystem.copy_file.Goals as goal

pub returns-in-Err-clause-goes : goal.returns-in-Err-clause-goes
returns-in-Err-clause-goes c =
    goes_copied c.args.self.now.memory c.copy.new.self (brought c.args.self.now.memory.disk c.args.from.now c.args.to.now) (writable c.args.self.now.memory.disk c.args.to.now) (Err c.in-Err.stop) _
    (brought_say (leads c.args.self.now.memory.disk c.args.from.now) (writable c.args.self.now.memory.disk c.args.to.now) (file_at c.args.self.now.memory.disk c.args.from.now InvalidInput) (file_say c.args.self.now.memory.disk c.args.from.now)) (writable_say c.args.self.now.memory.disk c.args.to.now) (ap Failed c.fail.ensures.kind) c.in-Err.ensures
