use Rattle.cacache_system_model.proofs.Covered.{each_may_break, each_goes_plainly}
use Rattle.cacache_system_model.proofs.laws.covered_laws.Goals as goal

pub returns : goal.returns
returns c = record { breaking = each_may_break; plainly = each_goes_plainly }
