use Rattle.std.proofs.Common.{[], IfErr, false, ap₂, subst}
use Rattle.cacache_jobs.specs.JobStates.{site_of}
use Rattle.cacache_keep.specs.{declared.checking.OddLines.TheVariants.{Refuse}, Collecting.{told_by}, Grace.{LimitedFirst}, Pruning.{PrunesAs, StopsPruning}}
use Rattle.cacache_keep.proofs.Asked.{value_so}
use Rattle.cacache_keep.proofs.pruning.prune.Goals as goal

pub returns-clause-prunes : goal.returns-clause-prunes
returns-clause-prunes g c =
    let old = g.S.Store.log c.args.env.now.store in
    let new = g.S.Store.log c.prune.new.env.store in
    let site = site_of c.args.cache.now c.args.env.now.base 0 in
    let told = ap₂ (told_by Refuse) c.new.ensures.keep c.new.ensures.durable in
    value_so c.prune.result
    (λ p it.
    let none = (subst (λ x. LimitedFirst g.C.Clock.given x c.args.env.now.clock it.0) c.new.ensures.grace it.1).1.1 in
    subst (λ l. PrunesAs c.args.limits (told_by Refuse [] false) l site p old new) none (subst (λ t. PrunesAs c.args.limits t it.0 site p old new) told it.2))
    c.prune.ensures.prunes

pub returns-clause-stops : goal.returns-clause-stops
returns-clause-stops g c =
    let old = g.S.Store.log c.args.env.now.store in
    let new = g.S.Store.log c.prune.new.env.store in
    let site = site_of c.args.cache.now c.args.env.now.base 0 in
    subst (λ d. IfErr c.prune.result (λ e. StopsPruning c.args.limits d site e old new)) c.new.ensures.durable c.prune.ensures.stops
