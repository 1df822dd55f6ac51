use Rattle.cacache_system_model.proofs.Steps.{Copying.{copy_agrees}, Writing.{append_agrees, write_agrees}}
use Rattle.cacache_system_model.proofs.laws.writing_step_laws.Goals as goal

pub returns : goal.returns
returns c = record { append = append_agrees; write = write_agrees; copy = copy_agrees }
