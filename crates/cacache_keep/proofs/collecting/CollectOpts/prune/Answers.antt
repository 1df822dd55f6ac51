use Rattle.std.proofs.Common.{IfErr, ap, subst}
use Rattle.cacache_jobs.specs.JobStates.{site_of}
use Rattle.cacache_keep.specs.{declared.collecting.CollectOpts.{CollectOpts}, Collecting.{told_by}, Grace.{LimitedFirst}, Pruning.{PrunesAs, StopsPruning}}
use Rattle.cacache_keep.proofs.Asked.{value_so}
use Rattle.cacache_keep.proofs.collecting.CollectOpts.prune.Goals as goal

pub returns-clause-prunes : goal.returns-clause-prunes
returns-clause-prunes g c =
    let told = ap (λ (o : CollectOpts). told_by o.odd o.keep.now o.durable) c.odd-opts.ensures in
    let limit = c.limit_by-limit.result in
    let site = site_of c.args.cache.now c.args.env.now.base 0 in
    let old = g.S.Store.log c.args.env.now.store in
    let mid = g.S.Store.log c.prune_old-answer.new.env.store in
    let first : LimitedFirst g.C.Clock.given c.args.self.grace c.args.env.now.clock c.limit_by-limit.result = (c.limit_by-limit.new.clock, c.limit_by-limit.ensures) in
    rw c.end_walks.ensures.logged (value_so c.prune_old-answer.result (λ p it. (limit, first, subst (λ t. PrunesAs c.args.limits t limit site p old mid) told it)) (rw c.begin_walks.ensures.logged at c.prune_old-answer.ensures.prunes))

pub returns-clause-stops : goal.returns-clause-stops
returns-clause-stops g c =
    let site = site_of c.args.cache.now c.args.env.now.base 0 in
    let old = g.S.Store.log c.args.env.now.store in
    let mid = g.S.Store.log c.prune_old-answer.new.env.store in
    let same = ap (λ (o : CollectOpts). o.durable) c.odd-opts.ensures in
    rw c.end_walks.ensures.logged (subst (λ d. IfErr c.prune_old-answer.result (λ e. StopsPruning c.args.limits d site e old mid)) same (rw c.begin_walks.ensures.logged at c.prune_old-answer.ensures.stops))
