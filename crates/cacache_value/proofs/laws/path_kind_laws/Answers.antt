use Rattle.cacache_value.proofs.PathKinds.{paths_are_for, folders_are_ways}
use Rattle.cacache_value.proofs.laws.path_kind_laws.Goals as goal

pub returns-clause-kinds : goal.returns-clause-kinds
returns-clause-kinds c = paths_are_for

pub returns-clause-folders : goal.returns-clause-folders
returns-clause-folders c = folders_are_ways
