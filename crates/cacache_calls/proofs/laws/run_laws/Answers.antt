use Rattle.cacache_calls.proofs.{Effort.{falls}, Going.{no_memory_after, wants_until_over}}
use Rattle.cacache_calls.proofs.laws.run_laws.Goals as goal

pub returns-clause-falls : goal.returns-clause-falls
returns-clause-falls c = falls

pub returns-clause-memory : goal.returns-clause-memory
returns-clause-memory c = no_memory_after

pub returns-clause-over : goal.returns-clause-over
returns-clause-over c = wants_until_over
