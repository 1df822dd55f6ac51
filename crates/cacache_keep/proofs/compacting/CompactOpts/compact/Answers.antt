use Rattle.cacache_keep.proofs.compacting.CompactOpts.compact.Goals as goal

pub returns-clause-compacts : goal.returns-clause-compacts
returns-clause-compacts g c = rw c.end_walks.ensures.logged (rw c.begin_walks.ensures.logged at c.compact_open-answer.ensures.compacts)

pub returns-clause-stops : goal.returns-clause-stops
returns-clause-stops g c = rw c.end_walks.ensures.logged (rw c.begin_walks.ensures.logged at c.compact_open-answer.ensures.stops)
