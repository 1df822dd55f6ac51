use Rattle.cacache_entry.proofs.Lookups.{last_answer_decides, no_answer_is_none, last_line_is_enough}
use Rattle.cacache_entry.proofs.laws.lookup_laws.Goals as goal

pub returns-clause-last_decides : goal.returns-clause-last_decides
returns-clause-last_decides c = last_answer_decides

pub returns-clause-no_answer : goal.returns-clause-no_answer
returns-clause-no_answer c = no_answer_is_none

pub returns-clause-last_line : goal.returns-clause-last_line
returns-clause-last_line c = last_line_is_enough
