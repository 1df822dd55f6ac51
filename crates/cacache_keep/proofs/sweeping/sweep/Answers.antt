use Rattle.cacache_keep.proofs.sweeping.sweep.Goals as goal

pub returns-clause-stops : goal.returns-clause-stops
returns-clause-stops g c = rw c.end_walks.ensures.logged (rw c.begin_walks.ensures.logged at c.sweep_open-answer.ensures.stops)
