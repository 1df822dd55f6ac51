use Rattle.std.proofs.lemmas.Result.{IfErr-weaker}
use Rattle.uses_client.proofs.storing.retry_install.Goals as goal

pub returns-clause-fails : goal.returns-clause-fails
returns-clause-fails g c = IfErr-weaker c.store-in-Err.result _ _ (λ e h. c.joining_laws.ensures.later e _ _ _ c.store.ensures.grows h) c.store-in-Err.ensures.fails
