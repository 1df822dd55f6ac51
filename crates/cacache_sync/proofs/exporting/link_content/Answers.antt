use Rattle.std.{proofs.Common.{subst}, specs.Prelude.{IfOk}}
use Rattle.cacache_calls.specs.declared.reply.Reply.TheVariants.{Done}
use Rattle.cacache_jobs.specs.{ReadFirst.{Verified}, JobStates.{site_of}}
use Rattle.cacache_sync.proofs.Exports.{links_verified, says_nothing}
use Rattle.cacache_sync.proofs.exporting.link_content.Goals as goal

pub done-requires : goal.done-requires
done-requires g c =
    says_nothing (site_of c.args.cache.now c.args.env.now.base 0) c.in_ok-source.source (record { how = c.args.how; checked = c.args.checked; to = c.in_ok-to.to }) _ c.requires c.call.ensures.promised

pub returns-clause-verified : goal.returns-clause-verified
returns-clause-verified g c = λ so.
    let first = rw (← c.done.ensures) at c.call.ensures.read_first in
    subst (λ source. IfOk c.done.result (λ _. Verified c.args.cache.now source Done (g.S.Store.log c.args.env.now.store) (g.S.Store.log c.call.new.env.store))) c.in_ok-source.ensures.source
    (links_verified (site_of c.args.cache.now c.args.env.now.base 0) c.in_ok-source.source (record { how = c.args.how; checked = c.args.checked; to = c.in_ok-to.to }) c.done.result _ _ so first)
