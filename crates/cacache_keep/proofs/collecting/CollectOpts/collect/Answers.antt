use Rattle.std.proofs.Common.{subst, sym}
use Rattle.cacache_keep.{specs.Grace.{LimitedBy}, proofs.{Asked.{value_so}, Stopped.{error_so}}}
use Rattle.cacache_keep.proofs.collecting.CollectOpts.collect.Goals as goal

pub returns-clause-collects : goal.returns-clause-collects
returns-clause-collects g c =
    let limited = subst (λ k. LimitedBy g.C.Clock.given c.args.self.grace c.args.env.now.clock k c.limit_by-limit.result) (sym c.collect_old-answer.ensures.rest.0) c.limit_by-limit.ensures in
    rw c.end_walks.ensures.logged (value_so c.collect_old-answer.result (λ done it. (c.limit_by-limit.result, limited, it)) (rw c.begin_walks.ensures.logged at c.collect_old-answer.ensures.collects))

pub returns-clause-stops : goal.returns-clause-stops
returns-clause-stops g c =
    let limited = subst (λ k. LimitedBy g.C.Clock.given c.args.self.grace c.args.env.now.clock k c.limit_by-limit.result) (sym c.collect_old-answer.ensures.rest.0) c.limit_by-limit.ensures in
    rw c.end_walks.ensures.logged (error_so c.collect_old-answer.result (λ e it. (c.limit_by-limit.result, limited, it)) (rw c.begin_walks.ensures.logged at c.collect_old-answer.ensures.stops))
