use Rattle.cacache_calls.proofs.Effects.{puts_commit, links_commit, inserts_send, deletes_send, errands_only_change}
use Rattle.cacache_calls.proofs.laws.effect_laws.Goals as goal

pub returns-clause-puts : goal.returns-clause-puts
returns-clause-puts c = puts_commit

pub returns-clause-links : goal.returns-clause-links
returns-clause-links c = links_commit

pub returns-clause-inserts : goal.returns-clause-inserts
returns-clause-inserts c = inserts_send

pub returns-clause-deletes : goal.returns-clause-deletes
returns-clause-deletes c = deletes_send

pub returns-clause-errands : goal.returns-clause-errands
returns-clause-errands c = errands_only_change
