use Rattle.cacache_disk.proofs.Logs.{dirs-failed, dirs-done}
use Rattle.cacache_disk.proofs.memory.store.make_folders.Goals as goal

pub returns-clause-made : goal.returns-clause-made
returns-clause-made c =
    dirs-done c.args.disk.now c.args.path c.in_ok-answer.answer c.apply-applied.new.self c.fault_of-fault.result c.in_ok-answer.ensures.ok c.fault_of-fault.ensures

pub returns-clause-failed : goal.returns-clause-failed
returns-clause-failed c =
    dirs-failed c.args.disk.now c.args.path c.in_ok-answer.answer c.apply-applied.new.self c.fault_of-fault.result c.in_ok-answer.ensures.ok c.fault_of-fault.ensures
