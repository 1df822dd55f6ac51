use Rattle.cacache.proofs.content.read.list.Goals as goal

pub returns-clause-lists : goal.returns-clause-lists
returns-clause-lists g c = rw c.end_walks.ensures.logged c.list-answer.ensures.lists

pub returns-clause-stops : goal.returns-clause-stops
returns-clause-stops g c = rw c.end_walks.ensures.logged c.list-answer.ensures.stops
