use Rattle.cacache_system_model.proofs.Steps.Removing.{remove_file_agrees, remove_dir_agrees}
use Rattle.cacache_system_model.proofs.laws.removal_laws.Goals as goal

pub returns : goal.returns
returns c = record { file = remove_file_agrees; folder = remove_dir_agrees }
