use Rattle.std.proofs.Common.{sym}
use Rattle.cacache_store.specs.Plain.{plain_step}
use Rattle.cacache_world.proofs.Turning.{wanted_out, goes_step, goes_over}
use Rattle.cacache_world.proofs.turn.after_step.Goals as goal

pub returns-in-Step : goal.returns-in-Step
returns-in-Step c = λ s goes.
    let step = plain_step (λ file. file) (λ temp. temp) c.in-Step.step in
    let g = goes_step c.args.job s step goes (λ t stands. wanted_out c.next.new.self t step (c.in-Step.ensures.hands_out t stands)) in
    ((step, g.0), (c.back.ensures.stands s (c.in-Step.ensures.hands_out s g.1), c.back.ensures.ready))

pub returns-in-Over : goal.returns-in-Over
returns-in-Over c = λ s goes.
    (goes_over c.args.job s c.in-Over.reply c.twice-reply.result.0 c.twice-reply.result.1 goes (λ t stands. c.in-Over.ensures.hands_out t stands) c.twice-reply.ensures, sym c.twice-reply.ensures.0)
