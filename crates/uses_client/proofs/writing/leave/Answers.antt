use Rattle.uses_client.proofs.writing.leave.Goals as goal

pub returns : goal.returns
returns g c = λ cache key s bytes sound writing. c.writer_laws.ensures.gives_up cache key s bytes c.args.writer c.abandon-left.result c.args.env.now sound writing c.abandon-left.ensures.removes
