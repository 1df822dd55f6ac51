use Rattle.cacache_laws.proofs.results.DurableCases.{inserts_stand, puts_stand, puts_stand_last}
use Rattle.cacache_laws.proofs.results.losses.durable_cases.Goals as goal

pub returns : goal.returns
returns c = record { inserts = inserts_stand; puts = puts_stand; last = puts_stand_last }
