use Rattle.cacache_disk.proofs.KeptFolders.{steps_keep_rooted}
use Rattle.cacache_value.proofs.{Shows.{trees_show}, Traces.{steps_keep_placed, steps_act}}
use Rattle.cacache_value.proofs.laws.step_laws.Goals as goal

pub returns-clause-placed : goal.returns-clause-placed
returns-clause-placed c = steps_keep_placed

pub returns-clause-acts : goal.returns-clause-acts
returns-clause-acts c = steps_act

pub returns-clause-rooted : goal.returns-clause-rooted
returns-clause-rooted c = steps_keep_rooted

pub returns-clause-shows : goal.returns-clause-shows
returns-clause-shows c = trees_show
