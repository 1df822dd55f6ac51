use Rattle.std.{proofs.Common.{refl, subst}, specs.Prelude.{IfOk}}
use Rattle.cacache_calls.specs.declared.{command.How.TheVariants.{Copy}, reply.Reply.TheVariants.{Copied}}
use Rattle.cacache_jobs.specs.{ReadFirst.{Verified}, JobStates.{site_of}}
use Rattle.cacache_sync.proofs.Exports.{copies_verified, says_count}
use Rattle.cacache_sync.proofs.exporting.copy_content.Goals as goal

pub copied-requires : goal.copied-requires
copied-requires g c =
    says_count (site_of c.args.cache.now c.args.env.now.base 0) c.in_ok-source.source (record { how = Copy; checked = c.args.checked; to = c.in_ok-to.to }) _ refl c.call.ensures.promised

pub returns-clause-verified : goal.returns-clause-verified
returns-clause-verified g c = λ so.
    let first = rw (← c.copied.ensures) at c.call.ensures.read_first in
    subst (λ source. IfOk c.copied.result (λ count. Verified c.args.cache.now source (Copied count) (g.S.Store.log c.args.env.now.store) (g.S.Store.log c.call.new.env.store))) c.in_ok-source.ensures.source
    (copies_verified (site_of c.args.cache.now c.args.env.now.base 0) c.in_ok-source.source (record { how = Copy; checked = c.args.checked; to = c.in_ok-to.to }) c.copied.result _ _ so first)
