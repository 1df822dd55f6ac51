use Rattle.std.proofs.Common.{ap, ◌∙◌}
use Rattle.cacache_core.specs.Errors.{fault_of}
use Rattle.cacache_sync.proofs.content.Writes.{given_up_earned, refused_earned}
use Rattle.cacache_sync.proofs.content.writer.write_or_abandon.Goals as goal

pub returns-clause-earned : goal.returns-clause-earned
returns-clause-earned g c =
    let fault = c.from.ensures ∙ ap fault_of c.kind.ensures in
    let earned = refused_earned g.S.Temp.TempFile.writes c.write_all.new.self.file c.in-Err.error c.from.result c.refused.result (c.in-Err.ensures.earned, c.in-Err.ensures.retried) fault c.refused.ensures in
    rw c.given_up.ensures (given_up_earned g.S.Temp.TempFile.writes c.abandon-removed.result c.refused.result earned)
