use Rattle.std.proofs.Common.{Some, ap, option_map, refl, rules}
use Rattle.cacache_entry.specs.View.{found_view}
use Rattle.cacache_calls.specs.declared.command.Command.TheVariants as commands
use Rattle.cacache_calls.specs.declared.reply.Reply.TheVariants as replies
use Rattle.cacache_jobs.specs.JobStates.{site_of}
use Rattle.cacache_keep.specs.Repairing.{AsksFor, StopsAsking, StopsLooking}
use Rattle.cacache_keep.proofs.{Asked.{ran_at, value_so}, Stopped.{at_base, error_so, error_as}, Repairs.Tombs.{led_by, look_stops, question_stops}}
use Rattle.cacache_keep.proofs.burying.leads_nowhere.Goals as goal

pub returns-in_err-found-clause-stops : goal.returns-in_err-found-clause-stops
returns-in_err-found-clause-stops g c =
    let site = site_of c.args.cache.now c.args.env.now.base 0 in
    let look = c.args.shown.now in
    let old = g.S.Store.log c.args.env.now.store in
    let new = g.S.Store.log c.find.new.env.store in
    let e = c.in_err-found.field-0.0 in
    error_as (λ x. StopsLooking site look x old new) c.from_residual.result e c.from_residual.ensures.1 (look_stops site look (commands.Find c.args.key.now) e old new tt c.in_err-found.ensures.ran.0.0)

pub returns-in-Some : goal.returns-in-Some
returns-in-Some g c =
    let cache = c.args.cache.now in
    let base = c.args.env.now.base in
    let site = site_of cache base 0 in
    let look = c.args.shown.now in
    let old = g.S.Store.log c.args.env.now.store in
    let mid = g.S.Store.log c.find.new.env.store in
    let new = g.S.Store.log c.is_lost.new.env.store in
    let f = found_view c.in-Some.found in
    let calls = c.in_ok-found.ensures.ran in
    let looked = ran_at cache base base (commands.Find c.args.key.now) _ (replies.LookedUp (Some f)) _ old mid refl refl (ap (λ o. replies.LookedUp (option_map found_view o)) c.in-Some.is) calls.0.0 in
    record {
      looks = value_so c.is_lost.result (λ lost asks. led_by site look c.args.key.now f lost old mid new looked (at_base (λ s. AsksFor s look f.integrity lost mid new) cache base c.find.new.env.base calls.0.1 asks)) c.is_lost.ensures.asks;
      stops = error_so c.is_lost.result (λ e stops. question_stops site look c.args.key.now f e old mid new looked (at_base (λ s. StopsAsking s look f.integrity e mid new) cache base c.find.new.env.base calls.0.1 stops)) c.is_lost.ensures.stops;
      rest = search rules;
    }
