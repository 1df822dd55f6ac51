-- A piece more was read, and the writer took it.
use Rattle.std.proofs.{Common.{take, ◌++◌, ◌∙◌}, KnownBytes.{Consumes-trans}}
use Rattle.cacache_program.proofs.TakenFiles.{went_further}
use Rattle.cacache_program.proofs.storing.fill.Goals as goal

pub loop-writer-preserved : goal.loop-writer-preserved
loop-writer-preserved g c =
    let inv = c.loop-writer.invariant in
    let file = g.S.File.FileHandle.seen in
    let wrote = c.in_ok-writer-in-Ok.ensures in
    let piece = take c.in-Ok.count c.read_some.new.buf in (
      (
        inv.0.0 ++ piece,
        Consumes-trans (file c.args.file).bytes (file c.loop-writer.file).bytes (file c.read_some.new.self).bytes inv.0.0 piece inv.0.1 c.in-Ok.ensures.bytes.0,
        went_further g.S.Temp.TempHandle.seen c.args.writer c.loop-writer.writer c.in_ok-writer-in-Ok.writer inv.0.0 piece inv.0.2
            (record { takes = wrote.takes; appends = wrote.bytes; same = wrote.goes_on; said = wrote.said }),
      ),
      wrote.quiet ∙ inv.1,
      wrote.clock ∙ inv.2,
      wrote.names ∙ inv.3,
      wrote.base ∙ inv.4,
    )
