-- A lookup, and an insertion that says of the content what it found.
use Rattle.std.{proofs.Common.{None, Some, ap, inr, inl, refl, subst, ◌∙◌}, specs.Prelude.{option_map}}
use Rattle.cacache_entry.specs.View.{found_view}
use Rattle.cacache_calls.specs.declared.command.Command.TheVariants as commands
use Rattle.cacache_calls.specs.declared.reply.Reply.TheVariants as replies
use Rattle.cacache_calls.specs.{Inserting.{given_or, no_integrity}, Runs.{without_message}}
use Rattle.cacache_jobs.specs.{Environment.{AsksMoment, HasMoment}, JobStates.{site_of}}
use Rattle.cacache_sync.specs.put.KeyedWriters.{Said, insert_of}
use Rattle.cacache_keep.{specs.Touching.{StopsTouching, renewed}, proofs.{Asked.{ran_at}, Stopped.{error_as}}}
use Rattle.cacache_keep.proofs.touching.touch.Goals as goal

pub returns-in_default-clause-touches : goal.returns-in_default-clause-touches
returns-in_default-clause-touches g c =
    let base = c.args.env.now.base in
    let new = g.S.Store.log c.find.new.env.store in
    let calls = c.in_ok-found.ensures.ran in
    let looked = ran_at c.args.cache.now base base (commands.Find c.args.key.now) _ (replies.LookedUp None) _ (g.S.Store.log c.args.env.now.store) new refl refl (ap (λ o. replies.LookedUp (option_map found_view o)) c.in_default.is) calls.0.0 in
    record { found = None; which = refl; moment = 0; asked = calls.1; calls = looked }

pub returns-clause-touches : goal.returns-clause-touches
returns-clause-touches g c =
    let cache = c.args.cache.now in
    let base = c.args.env.now.base in
    let key = c.args.key.now in
    let mid = g.S.Store.log c.find.new.env.store in
    let read = g.S.Store.log c.check_bucket.new.store in
    let new = g.S.Store.log c.insert.new.env.store in
    let f = found_view c.in-Some.found in
    let calls = c.in_ok-found.ensures.ran in
    let run = c.in_ok-_integrity.ensures.ran in
    let said = c.opts_of.ensures in
    let looked = ran_at cache base base (commands.Find key) _ (replies.LookedUp (Some f)) _ (g.S.Store.log c.args.env.now.store) mid refl refl (ap (λ o. replies.LookedUp (option_map found_view o)) c.in-Some.is) calls.0.0 in
    let put = ran_at cache base c.find.new.env.base (renewed key f run.0) _ (replies.Stored f.integrity) _ read new calls.0.1 (ap (λ (o : Said). commands.Insert (insert_of key o run.0)) said)
    (ap (λ i. replies.Stored i) (c.in_ok-_integrity.ensures.inserted ∙ ap (λ (o : Said). given_or no_integrity o.integrity) said)) run.2.0 in
    record {
      found = Some f;
      which = refl;
      moment = run.0;
      asked = subst (λ clock. AsksMoment g.C.Clock.given clock c.insert.new.env.clock run.0) calls.1 (subst (λ (o : Said). HasMoment g.C.Clock.given o.time c.find.new.env.clock c.insert.new.env.clock run.0) said run.1);
      calls = (mid, read, looked, c.in_ok-check_bucket.ensures.clean, put);
    }

pub returns-in_err-check_bucket-clause-stops : goal.returns-in_err-check_bucket-clause-stops
returns-in_err-check_bucket-clause-stops g c =
    let base = c.args.env.now.base in
    let mid = g.S.Store.log c.find.new.env.store in
    let f = found_view c.in-Some.found in
    let looked = ran_at c.args.cache.now base base (commands.Find c.args.key.now) _ (replies.LookedUp (Some f)) _ (g.S.Store.log c.args.env.now.store) mid refl refl (ap (λ o. replies.LookedUp (option_map found_view o)) c.in-Some.is) c.in_ok-found.ensures.ran.0.0 in
    error_as (λ x. StopsTouching (site_of c.args.cache.now base 0) c.args.key.now x (g.S.Store.log c.args.env.now.store) (g.S.Store.log c.check_bucket.new.store)) c.from_residual-in_err-check_bucket.result c.in_err-check_bucket.field-0.0 c.from_residual-in_err-check_bucket.ensures.1
    (inr (f, mid, looked, inl c.in_err-check_bucket.ensures.stops))

pub returns-in_err-_integrity-clause-stops : goal.returns-in_err-_integrity-clause-stops
returns-in_err-_integrity-clause-stops g c =
    let cache = c.args.cache.now in
    let base = c.args.env.now.base in
    let key = c.args.key.now in
    let mid = g.S.Store.log c.find.new.env.store in
    let read = g.S.Store.log c.check_bucket.new.store in
    let new = g.S.Store.log c.insert.new.env.store in
    let f = found_view c.in-Some.found in
    let e = c.in_err-_integrity.field-0.0 in
    let calls = c.in_ok-found.ensures.ran in
    let run = c.in_err-_integrity.ensures.ran in
    let looked = ran_at cache base base (commands.Find key) _ (replies.LookedUp (Some f)) _ (g.S.Store.log c.args.env.now.store) mid refl refl (ap (λ o. replies.LookedUp (option_map found_view o)) c.in-Some.is) calls.0.0 in
    let put = ran_at cache base c.find.new.env.base (renewed key f run.0) _ (replies.Refused (without_message e)) _ read new calls.0.1 (ap (λ (o : Said). commands.Insert (insert_of key o run.0)) c.opts_of.ensures) refl run.2.0 in
    error_as (λ x. StopsTouching (site_of cache base 0) key x (g.S.Store.log c.args.env.now.store) new) c.from_residual-in_err-_integrity.result e c.from_residual-in_err-_integrity.ensures.1
    (inr (f, mid, looked, inr (run.0, read, c.in_ok-check_bucket.ensures.clean, put)))
