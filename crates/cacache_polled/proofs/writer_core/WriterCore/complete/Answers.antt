use Rattle.cacache_polled.proofs.Held.{ended_seen}
use Rattle.cacache_polled.proofs.writer_core.WriterCore.complete.Goals as goal

pub returns-clause-seen : goal.returns-clause-seen
returns-clause-seen c events k = ended_seen _ _ _ _ events c.end.ensures.ended k
