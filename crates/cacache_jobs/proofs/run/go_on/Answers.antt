use Rattle.std.proofs.Common.{subst}
use Rattle.cacache_store.specs.Plain.{PlainStep, PlainAnswer, plain_step, plain_answer}
use Rattle.cacache_calls.specs.{State.{State}, Table.{after}, Runs.{plain_reply}}
use Rattle.cacache_jobs.{specs.JobStates.{IsAt, Leads, PhaseAt}, proofs.Running.{result_shrinks, steps, ended, ended_by, start}}
use Rattle.cacache_jobs.proofs.run.go_on.Goals as goal

pub returns-in-Err : goal.returns-in-Err
returns-in-Err g c = λ s0 h.
    let file = g.S.File.FileHandle.seen in
    let temp = g.S.Temp.TempHandle.seen in
    let r = c.steps.invariant.reached s0 h in
    ended_by c.in-Err.error r.2 (subst (λ p. Leads file temp p r.0) c.in-Err.is r.1)

pub returns-in-Ok-Over : goal.returns-in-Ok-Over
returns-in-Ok-Over g c = λ s0 h.
    let file = g.S.File.FileHandle.seen in
    let temp = g.S.Temp.TempHandle.seen in
    let r = c.steps.invariant.reached s0 h in
    ended (plain_reply c.in-Ok-Over.reply) r.2 (subst (λ p. PhaseAt file temp p r.0) c.in-Ok-Over.field-0-is (subst (λ p. Leads file temp p r.0) c.in-Ok-Over.is r.1))

pub steps-smaller : goal.steps-smaller
steps-smaller g c =
    let file = g.S.File.FileHandle.seen in
    let temp = g.S.Temp.TempHandle.seen in
    let s : State = c.steps.invariant.stands.0 in
    let a : PlainStep = plain_step file temp c.in-Ok-Wanting.step in
    let t : PlainAnswer = plain_answer file temp c.ask-answer.result in
    let now : PhaseAt file temp c.in-Ok-Wanting.field-0 s = subst (λ p. Leads file temp p s) c.in-Ok-Wanting.is c.steps.invariant.stands.1 in
    let at : IsAt temp c.in-Ok-Wanting.stage a s = subst (λ p. PhaseAt file temp p s) c.in-Ok-Wanting.field-0-is now in
    result_shrinks file temp c.steps.phase c.resume-phase.result c.in-Ok-Wanting.field-0 s a t c.in-Ok-Wanting.is now at.wanted c.ask-answer.ensures.fits (c.resume-phase.ensures s at.state)

pub steps-preserved : goal.steps-preserved
steps-preserved g c =
    let file = g.S.File.FileHandle.seen in
    let temp = g.S.Temp.TempHandle.seen in
    let a : PlainStep = plain_step file temp c.in-Ok-Wanting.step in
    let t : PlainAnswer = plain_answer file temp c.ask-answer.result in
    let s : State = c.steps.invariant.stands.0 in
    let at : IsAt temp c.in-Ok-Wanting.stage a s = subst (λ p. PhaseAt file temp p s) c.in-Ok-Wanting.field-0-is (subst (λ p. Leads file temp p s) c.in-Ok-Wanting.is c.steps.invariant.stands.1) in
    record {
      stands = (after s t, c.resume-phase.ensures s at.state);
      reached = λ s0 h.
          let r = c.steps.invariant.reached s0 h in
          let o : IsAt temp c.in-Ok-Wanting.stage a r.0 = subst (λ p. PhaseAt file temp p r.0) c.in-Ok-Wanting.field-0-is (subst (λ p. Leads file temp p r.0) c.in-Ok-Wanting.is r.1) in
          (after r.0 t, c.resume-phase.ensures r.0 o.state, steps a t r.2 o.wanted c.ask-answer.ensures.fits c.ask-answer.ensures.logged);
    }

pub steps-init : goal.steps-init
steps-init g c = record { stands = c.requires; reached = λ s0 h. (s0, h, start s0 (g.S.Store.log c.args.store.now)) }
