use Rattle.std.proofs.{Common.{◌∙◌, Ok, Err, length, refl, sym, ap, subst}, lemmas.List.{length-reverse}}
use Rattle.cacache_store.specs.Plain.{PlainStep, PlainAnswer, plain_step, plain_answer}
use Rattle.cacache_calls.proofs.Going.{gone_lost}
use Rattle.cacache_walks.{specs.Iterating.{listing_state}, proofs.{VisitAnswers.{Stepped, visited, fewer_steps, no_more_items}, Filling.{readied, fewer_steps_as, fewer_items_as}}}
use Rattle.cacache_walks.proofs.iterator.Ls.go_on.Goals as goal

pub returns-in_default-clause-went : goal.returns-in_default-clause-went
returns-in_default-clause-went g c = λ cache old items h. (refl, gone_lost (listing_state cache) h.0 old _ h.1)

pub returns-in-Err-clause-went : goal.returns-in-Err-clause-went
returns-in-Err-clause-went g c = λ cache old items h.
    let a : PlainStep = plain_step g.S.File.FileHandle.seen g.S.Temp.TempHandle.seen c.in-Ok.step in
    let t : PlainAnswer = plain_answer g.S.File.FileHandle.seen g.S.Temp.TempHandle.seen c.step-answer.result in
    let leads = c.in-Err.ensures items h.3.0 in
    visited cache old _ _ items c.args.visit c.args.self.now.walk c.resume.new.self h.0 a t h.1 h.3 c.in-Ok.ensures c.step-answer.ensures.fits c.step-answer.ensures.logged (Err c.in-Err.error) (rw h.3.1 leads)

pub returns-clause-went : goal.returns-clause-went
returns-clause-went g c = λ cache old items h.
    let a : PlainStep = plain_step g.S.File.FileHandle.seen g.S.Temp.TempHandle.seen c.in-Ok.step in
    let t : PlainAnswer = plain_answer g.S.File.FileHandle.seen g.S.Temp.TempHandle.seen c.step-answer.result in
    let leads = c.in-Ok-resume.ensures items h.3.0 in
    let stepped = visited cache old _ _ items c.args.visit c.args.self.now.walk c.resume.new.self h.0 a t h.1 h.3 c.in-Ok.ensures c.step-answer.ensures.fits c.step-answer.ensures.logged (Ok c.in-Ok-resume.next) (rw h.3.1 leads) in
    let ended = subst (λ l. Stepped cache old l items (Ok c.in-Ok-resume.next) c.resume.new.self) (sym c.end_walk.ensures) stepped in
    readied g.S.Store.log cache old _ c.resume.new.self items (rw c.swap.ensures.x_after at c.reverse.ensures.items) (rw (← c.swap.ensures.y_after) at c.requires) refl refl refl refl c.in-Ok-resume.next ended

pub returns-clause-shrinks : goal.returns-clause-shrinks
returns-clause-shrinks g c = λ cache old items h.
    let a : PlainStep = plain_step g.S.File.FileHandle.seen g.S.Temp.TempHandle.seen c.in-Ok.step in
    let t : PlainAnswer = plain_answer g.S.File.FileHandle.seen g.S.Temp.TempHandle.seen c.step-answer.result in
    let leads = c.in-Ok-resume.ensures items h.3.0 in
    let below = fewer_steps cache old _ _ items c.args.visit c.args.self.now.walk c.resume.new.self h.0 a t h.1 h.3 c.in-Ok.ensures c.step-answer.ensures.fits c.step-answer.ensures.logged c.in-Ok-resume.next (rw h.3.1 leads) in
    let room = no_more_items cache old _ _ items c.args.visit c.args.self.now.walk c.resume.new.self h.0 a t h.1 h.3 c.in-Ok.ensures c.step-answer.ensures.fits c.step-answer.ensures.logged c.in-Ok-resume.next h.2 (rw h.3.1 leads) in (
      fewer_steps_as c.in-Ok-resume.next c.resume.new.self _ _ refl refl below,
      fewer_items_as c.in-Ok-resume.next c.resume.new.self _ _ _ refl (ap length (rw c.swap.ensures.x_after at c.reverse.ensures.items) ∙ length-reverse _) room,
    )
