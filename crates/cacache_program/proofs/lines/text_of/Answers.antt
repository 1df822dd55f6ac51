-- One line more.
use Rattle.std.proofs.Common.{sym}
use Rattle.cacache_program.proofs.PrintedLines.{text_more}
use Rattle.cacache_program.proofs.lines.text_of.Goals as goal

pub loop-line-preserved : goal.loop-line-preserved
loop-line-preserved c =
    rw (c.in_ok-push.ensures.items, c.in_ok-extend_from_slice.ensures.items, c.loop-line.invariant, c.deref.ensures.value) (sym (text_more c.args.lines.now c.loop-line.line-index c.line-item.result c.loop-line-test.true c.line-item.is))
