-- What the words ask for was done.
use Rattle.std.proofs.Common.{◌≡◌, IfNone, IfSome, Option, subst}
use Rattle.cacache_program.specs.{Doing.{DoesWord}, Orders.{Order}}
use Rattle.cacache_program.proofs.keep.program.run.Goals as goal

pub returns-in-Some : goal.returns-in-Some
returns-in-Some g c =
    let asked = c.in-Some.ensures in
    record {
      status = c.carry_out.ensures.status.0;
      wrong = subst (λ (o : Option Order). IfNone o (c.carry_out.result ≡ 2)) asked tt;
      right = subst (λ (o : Option Order). IfSome o (λ _. c.carry_out.result ≡ 2 → ⊥)) asked c.carry_out.ensures.status.1;
      nothing_done = λ is. absurd (c.carry_out.ensures.status.1 is);
      quiet = c.carry_out.ensures.quiet;
      does =
          subst (λ (o : Option Order). IfSome o (λ order. DoesWord g.S.Store.log g.C.Clock.given order.word order c.args.env.now c.carry_out.new.env (g.W.Write.contents c.args.output.now) (g.W.Write.contents c.carry_out.new.output) c.carry_out.result)) asked
          c.carry_out.ensures.does;
    }

pub returns-in-None-clause-wrong : goal.returns-in-None-clause-wrong
returns-in-None-clause-wrong g c = subst (λ (o : Option Order). IfNone o (c.tell_misuse.result ≡ 2)) c.in-None.ensures c.tell_misuse.ensures

pub returns-in-None-clause-right : goal.returns-in-None-clause-right
returns-in-None-clause-right g c = subst (λ (o : Option Order). IfSome o (λ _. c.tell_misuse.result ≡ 2 → ⊥)) c.in-None.ensures tt

pub returns-in-None-clause-does : goal.returns-in-None-clause-does
returns-in-None-clause-does g c =
    subst (λ (o : Option Order). IfSome o (λ order. DoesWord g.S.Store.log g.C.Clock.given order.word order c.args.env.now c.args.env.now (g.W.Write.contents c.args.output.now) (g.W.Write.contents c.args.output.now) c.tell_misuse.result)) c.in-None.ensures tt
