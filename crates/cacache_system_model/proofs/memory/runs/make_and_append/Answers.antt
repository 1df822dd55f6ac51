use Rattle.cacache_store.specs.declared.store.step.Step.TheVariants as steps
use Rattle.cacache_folder.specs.FolderNumbers.{answered}
use Rattle.cacache_system_model.{specs.memory.{Machines.{calls_of}, Runs.{number_of}}, proofs.memory.Logs.{logs_run}}
use Rattle.cacache_system_model.proofs.memory.runs.make_and_append.Goals as goal

pub returns : goal.returns
returns c =
    let between = calls_of c.step-made.new.self.runner.system in (
      between,
      logs_run (steps.MakeDirs c.args.folder) (answered number_of c.step-made.result) (calls_of c.args.store.now.runner.system) between c.step-made.ensures.ran,
      logs_run (steps.Append c.args.path c.args.line) (answered number_of c.step-appended.result) between (calls_of c.step-appended.new.self.runner.system) c.step-appended.ensures.ran,
    )
