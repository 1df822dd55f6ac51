-- The bytes that the key leads to were read, and by the integrity those that were there after that.
use Rattle.uses_client.proofs.empty.store_and_read.Goals as goal

pub returns-clause-by_key : goal.returns-clause-by_key
returns-clause-by_key g c = c.in_ok-by_key.ensures.gives _ _ c.in_ok-integrity.ensures.stored.1

pub returns-clause-by_integrity : goal.returns-clause-by_integrity
returns-clause-by_integrity g c =
    c.in_ok-by_integrity.ensures.gives _ (c.in_ok-by_key.ensures.leaves.1.content _ _ c.in_ok-integrity.ensures.stored.1.content)
