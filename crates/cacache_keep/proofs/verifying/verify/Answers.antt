use Rattle.cacache_keep.proofs.verifying.verify.Goals as goal

pub returns-clause-verifies : goal.returns-clause-verifies
returns-clause-verifies g c = rw c.end_walks.ensures.logged c.verify_open-answer.ensures.verifies

pub returns-clause-stops : goal.returns-clause-stops
returns-clause-stops g c = rw c.end_walks.ensures.logged c.verify_open-answer.ensures.stops
