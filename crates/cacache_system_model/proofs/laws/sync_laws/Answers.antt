use Rattle.cacache_system_model.proofs.Steps.Syncing.{sync_temp_agrees, sync_file_agrees, sync_dir_agrees}
use Rattle.cacache_system_model.proofs.laws.sync_laws.Goals as goal

pub returns : goal.returns
returns c = record { temp = sync_temp_agrees; file = sync_file_agrees; folder = sync_dir_agrees }
