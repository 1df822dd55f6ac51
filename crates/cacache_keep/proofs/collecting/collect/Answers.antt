use Rattle.cacache_keep.proofs.collecting.collect.Goals as goal

pub returns-clause-collects : goal.returns-clause-collects
returns-clause-collects g c = rw c.end_walks.ensures.logged (rw c.begin_walks.ensures.logged at c.collect_open-answer.ensures.collects)

pub returns-clause-stops : goal.returns-clause-stops
returns-clause-stops g c = rw c.end_walks.ensures.logged (rw c.begin_walks.ensures.logged at c.collect_open-answer.ensures.stops)
