use Rattle.std.proofs.Common.{refl}
use Rattle.cacache_calls.specs.declared.command.Command.TheVariants as commands
use Rattle.cacache_calls.specs.declared.reply.Reply.TheVariants as replies
use Rattle.cacache_jobs.specs.JobStates.{site_of}
use Rattle.cacache_calls.specs.Runs.{without_message}
use Rattle.cacache_keep.{specs.Calls.{StopsRemoving}, proofs.{Asked.{keeps_on, ran_at}, Collections.Searching.{one_refused, one_removed}, Stopped.{error_as}}}
use Rattle.cacache_keep.proofs.removing.remove_each.Goals as goal

pub loop-sri-preserved : goal.loop-sri-preserved
loop-sri-preserved g c =
    let i = c.loop-sri.invariant in
    let site = site_of c.args.cache.now c.args.env.now.base 0 in
    let old = g.S.Store.log c.args.env.now.store in
    let mid = g.S.Store.log c.loop-sri.env.store in
    let new = g.S.Store.log c.remove_hash_sync.new.env.store in
    let calls = c.in_ok-remove_hash_sync.ensures.ran in
    let ran = ran_at c.args.cache.now c.args.env.now.base c.loop-sri.env.base (commands.RemoveHash c.sri-item.result) _ replies.Done _ mid new i.0.2 refl refl calls.0.0 in (
      keeps_on c.args.env.now c.loop-sri.env c.remove_hash_sync.new.env i.0 (calls.1, calls.2, calls.0.1),
      one_removed site c.args.addresses.now c.loop-sri.sri-index c.sri-item.result old mid new c.loop-sri-test.true c.sri-item.is i.1 ran,
    )

pub returns-in_err-remove_hash_sync-clause-stops : goal.returns-in_err-remove_hash_sync-clause-stops
returns-in_err-remove_hash_sync-clause-stops g c =
    let i = c.loop-sri.invariant in
    let site = site_of c.args.cache.now c.args.env.now.base 0 in
    let old = g.S.Store.log c.args.env.now.store in
    let mid = g.S.Store.log c.loop-sri.env.store in
    let new = g.S.Store.log c.remove_hash_sync.new.env.store in
    let e = c.in_err-remove_hash_sync.field-0.0 in
    let ran = ran_at c.args.cache.now c.args.env.now.base c.loop-sri.env.base (commands.RemoveHash c.sri-item.result) _ (replies.Refused (without_message e)) _ mid new i.0.2 refl refl c.in_err-remove_hash_sync.ensures.ran.0.0 in
    error_as (λ x. StopsRemoving site c.args.addresses.now x old new) c.from_residual.result e c.from_residual.ensures.1 (one_refused site c.args.addresses.now c.loop-sri.sri-index c.sri-item.result e old mid new c.loop-sri-test.true c.sri-item.is i.1 ran)
