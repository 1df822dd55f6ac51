use Rattle.cacache_history.proofs.Histories.LegalCases.{cases_hold, lookup_cases}
use Rattle.cacache_history.proofs.laws.legal_cases.Goals as goal

pub returns-clause-cases : goal.returns-clause-cases
returns-clause-cases c = cases_hold

pub returns-clause-lookups : goal.returns-clause-lookups
returns-clause-lookups c = lookup_cases
