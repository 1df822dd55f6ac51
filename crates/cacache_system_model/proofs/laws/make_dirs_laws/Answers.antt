use Rattle.cacache_system_model.proofs.Steps.Dirs.{make_dirs_agrees}
use Rattle.cacache_system_model.proofs.laws.make_dirs_laws.Goals as goal

pub returns : goal.returns
returns c = record { make = make_dirs_agrees }
