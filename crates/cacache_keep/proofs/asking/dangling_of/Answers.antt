use Rattle.std.proofs.{Common.{◌++◌, ◌∷◌, [], true, false, List, refl, sym, ap, subst, ◌∙◌, map}, lemmas.List.{map-append}}
use Rattle.cacache_core.specs.declared.errors.Error.TheVariants.{OutOfMemory}
use Rattle.cacache_entry.specs.{Bucket.{Found}, View.{found_view}}
use Rattle.cacache_calls.specs.declared.command.Command.TheVariants as commands
use Rattle.cacache_calls.specs.declared.reply.Reply.TheVariants as replies
use Rattle.cacache_calls.specs.Runs.{without_message}
use Rattle.cacache_jobs.specs.JobStates.{site_of}
use Rattle.cacache_keep.specs.Calls.{AsksEach, StopsQuestions}
use Rattle.cacache_keep.proofs.{Stopped.{asks_stop, lost_here, stops_at, error_as}, Asked.{absent_asked, keeps_on, none_asked, ran_at, there_asked}}
use Rattle.cacache_keep.proofs.asking.dangling_of.Goals as goal

pub loop-found-init : goal.loop-found-init
loop-found-init g c = ((refl, refl, refl), none_asked _ _ _ (ap (map found_view) c.new-dangling.ensures.items))

pub loop-found-preserved-in_ok-push : goal.loop-found-preserved-in_ok-push
loop-found-preserved-in_ok-push g c =
    let i = c.loop-found.invariant in
    let site = site_of c.args.cache.now c.args.env.now.base 0 in
    let old = g.S.Store.log c.args.env.now.store in
    let mid = g.S.Store.log c.loop-found.env.store in
    let new = g.S.Store.log c.exists_sync.new.env.store in
    let found = c.in-Some.found in
    let calls = c.in_ok-exists_sync.ensures.ran in
    let ran = ran_at c.args.cache.now c.args.env.now.base c.loop-found.env.base (commands.Exists found.integrity) _ (replies.Exists false) _ mid new i.0.2 (ap (λ (f : Found). commands.Exists f.integrity) c.as_metadata.ensures) (ap replies.Exists c.if-not-branch.true) calls.0.0 in
    let more = absent_asked site c.loop-found.yielded (map found_view c.loop-found.dangling.items) found old mid new i.1 ran in
    let is = ap (map found_view) c.in_ok-push.ensures.items ∙ map-append found_view c.loop-found.dangling.items (c.into_metadata.result ∷ []) ∙ ap (λ (f : Found). map found_view c.loop-found.dangling.items ++ f ∷ []) c.into_metadata.ensures in (
      keeps_on c.args.env.now c.loop-found.env c.exists_sync.new.env i.0 (calls.1, calls.2, calls.0.1),
      subst (λ (l : List Found). AsksEach site (c.loop-found.yielded ++ found ∷ []) l old new) (sym is) more,
    )

pub loop-found-preserved : goal.loop-found-preserved
loop-found-preserved g c =
    let i = c.loop-found.invariant in
    let site = site_of c.args.cache.now c.args.env.now.base 0 in
    let old = g.S.Store.log c.args.env.now.store in
    let mid = g.S.Store.log c.loop-found.env.store in
    let new = g.S.Store.log c.exists_sync.new.env.store in
    let found = c.in-Some.found in
    let calls = c.in_ok-exists_sync.ensures.ran in
    let ran = ran_at c.args.cache.now c.args.env.now.base c.loop-found.env.base (commands.Exists found.integrity) _ (replies.Exists true) _ mid new i.0.2 (ap (λ (f : Found). commands.Exists f.integrity) c.as_metadata.ensures) (ap replies.Exists c.if-not-branch.false) calls.0.0 in (
      keeps_on c.args.env.now c.loop-found.env c.exists_sync.new.env i.0 (calls.1, calls.2, calls.0.1),
      there_asked site c.loop-found.yielded (map found_view c.loop-found.dangling.items) found old mid new i.1 ran,
    )

pub returns-in_err-exists_sync-clause-stops : goal.returns-in_err-exists_sync-clause-stops
returns-in_err-exists_sync-clause-stops g c =
    let i = c.loop-found.invariant in
    let site = site_of c.args.cache.now c.args.env.now.base 0 in
    let old = g.S.Store.log c.args.env.now.store in
    let mid = g.S.Store.log c.loop-found.env.store in
    let new = g.S.Store.log c.exists_sync.new.env.store in
    let found = c.in-Some.found in
    let e = c.in_err-exists_sync.field-0.0 in
    let ran = ran_at c.args.cache.now c.args.env.now.base c.loop-found.env.base (commands.Exists found.integrity) _ (replies.Refused (without_message e)) _ mid new i.0.2 (ap (λ (f : Found). commands.Exists f.integrity) c.as_metadata.ensures) refl c.in_err-exists_sync.ensures.ran.0.0 in
    error_as (λ x. StopsQuestions site x old new) c.from_residual.result e c.from_residual.ensures.1 (asks_stop site c.loop-found.yielded (map found_view c.loop-found.dangling.items) e old mid new i.1 (stops_at site (commands.Exists found.integrity) e mid new tt ran))

pub returns-in_err-push-clause-stops : goal.returns-in_err-push-clause-stops
returns-in_err-push-clause-stops g c =
    let i = c.loop-found.invariant in
    let site = site_of c.args.cache.now c.args.env.now.base 0 in
    let old = g.S.Store.log c.args.env.now.store in
    let mid = g.S.Store.log c.loop-found.env.store in
    let new = g.S.Store.log c.exists_sync.new.env.store in
    let found = c.in-Some.found in
    let ran = ran_at c.args.cache.now c.args.env.now.base c.loop-found.env.base (commands.Exists found.integrity) _ (replies.Exists false) _ mid new i.0.2 (ap (λ (f : Found). commands.Exists f.integrity) c.as_metadata.ensures) (ap replies.Exists c.if-not-branch.true) c.in_ok-exists_sync.ensures.ran.0.0 in
    let more = absent_asked site c.loop-found.yielded (map found_view c.loop-found.dangling.items) found old mid new i.1 ran in
    error_as (λ x. StopsQuestions site x old new) c.from_residual-in_err-push.result OutOfMemory c.from_residual-in_err-push.ensures.1 (asks_stop site _ _ OutOfMemory old new new more (lost_here site new))
