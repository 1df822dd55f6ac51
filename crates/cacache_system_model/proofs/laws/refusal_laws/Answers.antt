use Rattle.cacache_system_model.proofs.Refusing.{no_second_write, no_removal_before_put, no_other_mode, no_other_sync, no_file_for_folder, no_copy_in_place, no_move_without_mode, no_call_without_owner}
use Rattle.cacache_system_model.proofs.laws.refusal_laws.Goals as goal

pub returns : goal.returns
returns c = record {
  second_write = no_second_write;
  removal_first = no_removal_before_put;
  mode = no_other_mode;
  sync = no_other_sync;
  folder = no_file_for_folder;
  copy = no_copy_in_place;
  move_first = no_move_without_mode;
  owner = no_call_without_owner;
}
