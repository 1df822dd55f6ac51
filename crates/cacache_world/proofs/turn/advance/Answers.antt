use Rattle.std.proofs.Common.{Some, sym, ap, subst, ◌∙◌, refl}
use Rattle.cacache_store.{specs.Plain.{plain_step}, proofs.Plain.{plain_step_same, plain_answer_same}}
use Rattle.cacache_calls.specs.{Table.{after}, Runs.{plain_reply}}
use Rattle.cacache_world.{specs.Turned.{GoesInto, AreOwn}, proofs.Turning.{wanted_out, not_over}}
use Rattle.cacache_world.proofs.turn.advance.Goals as goal

pub returns-in-Over : goal.returns-in-Over
returns-in-Over c = (
  refl,
  c.twice-reply.ensures.0,
  λ s stands. absurd (not_over s (plain_reply c.in-Over.reply) (subst (AreOwn c.args.job) c.in-Ok-None.field-0-is c.in-Ok-None.ensures s stands) (c.in-Over.ensures.hands_out s stands)),
)

pub returns-in-Ok : goal.returns-in-Ok
returns-in-Ok c = λ s stands.
    let step = plain_step (λ file. file) (λ temp. temp) c.in-Step.step in
    let out = c.in-Step.ensures.hands_out s stands in
    let wanted = wanted_out c.next.new.self s step out in
    let heard = plain_answer_same c.in-Ok.copy ∙ c.in-Ok.ensures.copy in
    let goes = subst (λ a. GoesInto c.take.new.self (after s a)) heard (c.take.ensures.goes_on s step out) in
    let ends = c.after_step.ensures (after s c.in-Ok.answer) goes in
    ((wanted ∙ ap Some (plain_step_same c.in-Step.step), sym (ap (λ r. r.0) c.in-Ok.ensures.ok), c.in-Ok.ensures.fits, ends.0), sym (ap (λ r. r.1) c.in-Ok.ensures.ok), ends.1)
