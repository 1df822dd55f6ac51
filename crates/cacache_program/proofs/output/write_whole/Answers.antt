use Rattle.std.proofs.Common.{rules}
use Rattle.cacache_program.proofs.Appending.{appends_more}
use Rattle.cacache_program.proofs.output.write_whole.Goals as goal

pub loop-preserved : goal.loop-preserved
loop-preserved g c =
    (search rules, appends_more _ _ _ c.args.bytes.now c.loop.written c.in-Ok.count c.loop.invariant.1 c.in-Ok.ensures.some)
