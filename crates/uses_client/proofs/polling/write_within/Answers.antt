use Rattle.std.proofs.Common.{◌∙◌, arith, refl}
use Rattle.uses_client.proofs.Polled.{polled}
use Rattle.uses_client.proofs.polling.write_within.Goals as goal

pub returns-in-Ready-clause-writes : goal.returns-in-Ready-clause-writes
returns-in-Ready-clause-writes g c =
    polled g.W.PollWrite.polls c.write_laws.ensures.all c.loop-test.true (λ is. cc) c.loop.invariant.0 c.in-Ready.ensures.writes

pub loop-preserved : goal.loop-preserved
loop-preserved g c = (
  polled g.W.PollWrite.polls c.write_laws.ensures.all (omega arith) (λ _. refl) c.loop.invariant.0 c.in_default.ensures.writes,
  c.poll.ensures.lent ∙ c.loop.invariant.1,
  λ _. c.in_default.ensures.registered.0,
  λ fact held. c.poll.ensures.kept fact (c.loop.invariant.3 fact held),
)
