use Rattle.cacache_system_model.proofs.Logging.{logs_agree}
use Rattle.cacache_system_model.proofs.laws.logged_laws.Goals as goal

pub returns : goal.returns
returns c = record { agree = logs_agree }
