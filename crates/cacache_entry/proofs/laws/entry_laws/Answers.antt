use Rattle.cacache_entry.proofs.EntryCauses.{no_cause_is_fit, flat_entries_fit, bare_entries_fit}
use Rattle.cacache_entry.proofs.laws.entry_laws.Goals as goal

pub returns-clause-no_cause : goal.returns-clause-no_cause
returns-clause-no_cause c = no_cause_is_fit

pub returns-clause-flat : goal.returns-clause-flat
returns-clause-flat c = flat_entries_fit

pub returns-clause-bare : goal.returns-clause-bare
returns-clause-bare c = bare_entries_fit
