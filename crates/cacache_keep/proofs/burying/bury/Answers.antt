use Rattle.std.{proofs.Common.{ap, refl, sym, ◌∙◌}, specs.Prelude.{not}}
use Rattle.cacache_calls.specs.declared.reply.Reply.TheVariants as replies
use Rattle.cacache_jobs.specs.JobStates.{site_of}
use Rattle.cacache_keep.{specs.Repairing.{tombstone}, proofs.{Asked.{ran_at}, Repairs.Tombs.{got_one, spared}}}
use Rattle.cacache_keep.proofs.burying.bury.Goals as goal

pub returns-then-not-branch-clause-buries : goal.returns-then-not-branch-clause-buries
returns-then-not-branch-clause-buries g c =
    let site = site_of c.args.cache.now c.args.env.now.base 0 in
    let old = g.S.Store.log c.args.env.now.store in
    let new = g.S.Store.log c.leads_nowhere.new.env.store in
    let looks = c.in_ok-leads_nowhere.ensures.looks in
    let fate = spared site c.args.shown.now c.args.key.now looks.0 old new (sym looks.1 ∙ c.if-not-branch.true) looks.2 looks.3 in
    (fate.0, fate.1, fate.2, ap not fate.3, fate.4, fate.5)

pub returns-clause-buries : goal.returns-clause-buries
returns-clause-buries g c =
    let cache = c.args.cache.now in
    let base = c.args.env.now.base in
    let site = site_of cache base 0 in
    let old = g.S.Store.log c.args.env.now.store in
    let mid = g.S.Store.log c.leads_nowhere.new.env.store in
    let new = g.S.Store.log c.delete.new.env.store in
    let looks = c.in_ok-leads_nowhere.ensures.looks in
    let run = c.in_ok-delete.ensures.ran in
    let ran = ran_at cache base c.leads_nowhere.new.env.base (tombstone c.args.key.now run.0).0 _ replies.Done _ mid new c.leads_nowhere.ensures.rest.2 refl refl run.2.0 in
    let fate = got_one site c.args.shown.now c.args.key.now looks.0 run.0 old mid new run.1.1 (sym looks.1 ∙ c.if-not-branch.false) looks.2 looks.3 ran in
    (fate.0, fate.1, fate.2, ap not fate.3, fate.4, fate.5)
