use Rattle.cacache_calls.proofs.Within as lemmas
use Rattle.cacache_calls.proofs.laws.licence_laws.Goals as goal

pub returns : goal.returns
returns c = record { keeps = lemmas.calls_keep_to }
