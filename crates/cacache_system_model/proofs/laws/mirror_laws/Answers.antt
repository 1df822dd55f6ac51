use Rattle.cacache_system_model.proofs.{Chaining.{steps_on_disk, runs_mirror}, Keeping.{steps_mirror}, Lasting.{losses_mirror}}
use Rattle.cacache_system_model.proofs.laws.mirror_laws.Goals as goal

pub returns : goal.returns
returns c = record { step = steps_mirror; one = steps_on_disk; run = runs_mirror; losses = losses_mirror }
