use Rattle.cacache_system_model.proofs.Steps.{Changing.{exists_agrees}, Looking.{open_agrees, size_agrees}}
use Rattle.cacache_system_model.proofs.laws.question_laws.Goals as goal

pub returns : goal.returns
returns c = record { exists = exists_agrees; size = size_agrees; «open» = open_agrees }
