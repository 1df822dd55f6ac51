use Rattle.std.proofs.Common.{true, false, ◌≡◌, ◌∙◌, map, option_map, refl, rules, string_bytes}
use Rattle.cacache_entry.specs.View.{found_view}
use Rattle.cacache_calls.specs.Runs.{without_message}
use Rattle.cacache_calls.specs.declared.command.Command.TheVariants as commands
use Rattle.cacache_calls.specs.declared.reply.Reply.TheVariants as replies
use Rattle.cacache_jobs.specs.JobStates.{site_of}
use Rattle.cacache_keep.{specs.Confirming.{StopsConfirming, is_led as is_led_of}, proofs.{Asked.{ran_at}, Confirmed.{not_confirmed, one_confirmed}, Stopped.{error_as}}}
use Rattle.cacache_keep.proofs.confirming.confirm.Goals as goal

pub returns-in_err-found-clause-stops : goal.returns-in_err-found-clause-stops
returns-in_err-found-clause-stops g c =
    let i = c.loop-entry.invariant in
    let cache = c.args.cache.now in
    let base = c.args.env.now.base in
    let site = site_of cache base 0 in
    let old = g.S.Store.log c.args.env.now.store in
    let mid = g.S.Store.log c.loop-entry.env.store in
    let new = g.S.Store.log c.find.new.env.store in
    let m = c.entry-item.result in
    let key = c.as_str.result.now in
    let e = c.in_err-found.field-0.0 in
    let same : c.as_str.result.now ≡ string_bytes c.entry-item.result.key = search rules in
    let ran = ran_at cache base c.loop-entry.env.base (commands.Find key) _ (replies.Refused (without_message e)) _ mid new i.0.2 refl refl c.in_err-found.ensures.ran.0.0 in
    error_as (λ x. StopsConfirming site (map found_view c.args.entries.now) x old new) c.from_residual.result e c.from_residual.ensures.1
    (not_confirmed site c.args.entries.now c.loop-entry.entry-index m key (replies.Refused (without_message e)) e old mid new c.loop-entry-test.true c.entry-item.is same refl i.1 ran)

pub returns-then-not-is_led-clause-stops : goal.returns-then-not-is_led-clause-stops
returns-then-not-is_led-clause-stops g c =
    let i = c.loop-entry.invariant in
    let cache = c.args.cache.now in
    let base = c.args.env.now.base in
    let site = site_of cache base 0 in
    let old = g.S.Store.log c.args.env.now.store in
    let mid = g.S.Store.log c.loop-entry.env.store in
    let new = g.S.Store.log c.find.new.env.store in
    let m = c.entry-item.result in
    let key = c.as_str.result.now in
    let found = option_map found_view c.in_ok-found.found in
    let same : c.as_str.result.now ≡ string_bytes c.entry-item.result.key = search rules in
    let away : is_led_of (found_view c.entry-item.result) (option_map found_view c.in_ok-found.found) ≡ false = search rules in
    let ran = ran_at cache base c.loop-entry.env.base (commands.Find key) _ (replies.LookedUp found) _ mid new i.0.2 refl refl c.in_ok-found.ensures.ran.0.0 in
    not_confirmed site c.args.entries.now c.loop-entry.entry-index m key (replies.LookedUp found) c.refused.result old mid new c.loop-entry-test.true c.entry-item.is same (away, c.refused.ensures) i.1 ran

pub loop-entry-preserved : goal.loop-entry-preserved
loop-entry-preserved g c =
    let i = c.loop-entry.invariant in
    let cache = c.args.cache.now in
    let base = c.args.env.now.base in
    let site = site_of cache base 0 in
    let old = g.S.Store.log c.args.env.now.store in
    let mid = g.S.Store.log c.loop-entry.env.store in
    let new = g.S.Store.log c.find.new.env.store in
    let m = c.entry-item.result in
    let key = c.as_str.result.now in
    let found = option_map found_view c.in_ok-found.found in
    let run = c.in_ok-found.ensures.ran in
    let same : c.as_str.result.now ≡ string_bytes c.entry-item.result.key = search rules in
    let leads : is_led_of (found_view c.entry-item.result) (option_map found_view c.in_ok-found.found) ≡ true = search rules in
    let ran = ran_at cache base c.loop-entry.env.base (commands.Find key) _ (replies.LookedUp found) _ mid new i.0.2 refl refl run.0.0 in (
      (run.1 ∙ i.0.0, run.2 ∙ i.0.1, run.0.1 ∙ i.0.2),
      one_confirmed site c.args.entries.now c.loop-entry.entry-index m key found old mid new c.loop-entry-test.true c.entry-item.is same leads i.1 ran,
    )
