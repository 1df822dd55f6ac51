use Rattle.cacache_system_model.proofs.Steps.Listing.{read_dir_goes, read_dir_breaks, read_dir_in_order}
use Rattle.cacache_system_model.proofs.laws.list_laws.Goals as goal

pub returns : goal.returns
returns c = record { plainly = read_dir_goes; breaking = read_dir_breaks; in_order = read_dir_in_order }
