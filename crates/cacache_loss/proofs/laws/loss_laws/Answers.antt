use Rattle.cacache_loss.proofs.{Contents.{contents_survive}, Buckets.{buckets_survive, entries_survive}, Commits.{commits_survive, found_survive, lookups_survive}, KeptPaths.{spared_temps_are_left}}
use Rattle.cacache_loss.proofs.laws.loss_laws.Goals as goal

pub returns-clause-contents : goal.returns-clause-contents
returns-clause-contents c = contents_survive

pub returns-clause-buckets : goal.returns-clause-buckets
returns-clause-buckets c = buckets_survive

pub returns-clause-entries : goal.returns-clause-entries
returns-clause-entries c = entries_survive

pub returns-clause-commits : goal.returns-clause-commits
returns-clause-commits c = commits_survive

pub returns-clause-spared : goal.returns-clause-spared
returns-clause-spared c = spared_temps_are_left

pub returns-clause-found : goal.returns-clause-found
returns-clause-found c = found_survive

pub returns-clause-lookups : goal.returns-clause-lookups
returns-clause-lookups c = lookups_survive
