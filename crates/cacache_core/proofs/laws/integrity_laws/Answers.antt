use Rattle.cacache_core.proofs.Meeting.{lists_finds, meets_finds, matching_finds, own_is_met}
use Rattle.cacache_core.proofs.laws.integrity_laws.Goals as goal

pub returns-clause-lists : goal.returns-clause-lists
returns-clause-lists c = lists_finds

pub returns-clause-meets : goal.returns-clause-meets
returns-clause-meets c = meets_finds

pub returns-clause-matching : goal.returns-clause-matching
returns-clause-matching c = matching_finds

pub returns-clause-own : goal.returns-clause-own
returns-clause-own c = own_is_met
