-- Its file was to be removed.
use Rattle.cacache_sync.proofs.content.Writes.{given_up_tries}
use Rattle.cacache_program.proofs.storing.give_up.Goals as goal

pub returns-clause-tries : goal.returns-clause-tries
returns-clause-tries g c = rw c.given_up.ensures (given_up_tries c.args.writer.writer.path c.abandon.result c.refused-error.result _ _ c.abandon.ensures.removes)
