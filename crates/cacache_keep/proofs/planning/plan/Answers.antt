use Rattle.cacache_keep.proofs.planning.plan.Goals as goal

pub returns-clause-plans : goal.returns-clause-plans
returns-clause-plans g c = rw c.end_walks.ensures.logged c.plan_open-answer.ensures.plans

pub returns-clause-stops : goal.returns-clause-stops
returns-clause-stops g c = rw c.end_walks.ensures.logged c.plan_open-answer.ensures.stops
