use Rattle.cacache_system_model.proofs.Meetings.{calls_can_go_well}
use Rattle.cacache_system_model.proofs.laws.satisfiable_laws.Goals as goal

pub returns : goal.returns
returns c = record { calls = calls_can_go_well }
