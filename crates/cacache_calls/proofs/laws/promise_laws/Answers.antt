use Rattle.cacache_calls.proofs.{Promises.{runs_keep, calls_answer}, Verifying.{exports_verify, links_read_whole}}
use Rattle.cacache_calls.proofs.laws.promise_laws.Goals as goal

pub returns-clause-states : goal.returns-clause-states
returns-clause-states c = runs_keep

pub returns-clause-calls : goal.returns-clause-calls
returns-clause-calls c = calls_answer

pub returns-clause-exports : goal.returns-clause-exports
returns-clause-exports c = exports_verify

pub returns-clause-links : goal.returns-clause-links
returns-clause-links c = links_read_whole
