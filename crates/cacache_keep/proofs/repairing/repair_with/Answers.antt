use Rattle.cacache_keep.proofs.repairing.repair_with.Goals as goal

pub returns-clause-repairs : goal.returns-clause-repairs
returns-clause-repairs g c = rw c.end_walks.ensures.logged (rw c.begin_walks.ensures.logged at c.repair_open-answer.ensures.repairs)

pub returns-clause-stops : goal.returns-clause-stops
returns-clause-stops g c = rw c.end_walks.ensures.logged (rw c.begin_walks.ensures.logged at c.repair_open-answer.ensures.stops)
