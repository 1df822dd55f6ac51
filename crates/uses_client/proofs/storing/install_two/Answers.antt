use Rattle.std.specs.Prelude.{IfErr}
use Rattle.cacache.specs.Laws.{FailsForMemory, IsExcused}
use Rattle.uses_client.proofs.Shown.{handed}
use Rattle.uses_client.proofs.storing.install_two.Goals as goal

pub returns-in_err-second-clause-fails : goal.returns-in_err-second-clause-fails
returns-in_err-second-clause-fails g c =
    handed (λ r. IfErr r (λ e. IsExcused e c.args.env.now.store c.store-2.new.env.store)) c.from_residual-in_err-second.result c.in_err-second.field-0.0 c.from_residual-in_err-second.ensures.1
    (c.joining_laws.ensures.later c.in_err-second.field-0.0 _ _ _ c.in_ok-first.ensures.grows c.in_err-second.ensures.fails)

pub returns-in_err-second-clause-memory : goal.returns-in_err-second-clause-memory
returns-in_err-second-clause-memory g c = λ ready. handed (λ r. FailsForMemory r) c.from_residual-in_err-second.result c.in_err-second.field-0.0 c.from_residual-in_err-second.ensures.1 (c.in_err-second.ensures.memory (c.in_ok-first.ensures.ready ready))

pub returns-clause-first : goal.returns-clause-first
returns-clause-first g c = c.in_ok-second.ensures.keeps.key c.args.first_key.now c.args.first.now _ c.requires.keys (c.requires.contents _ c.in_ok-first.ensures.stored.0) c.in_ok-first.ensures.stored.1
