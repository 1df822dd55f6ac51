-- The line, or a beginning of it.
use Rattle.cacache_program.proofs.Appending.{written_so_far}
use Rattle.cacache_program.proofs.keep.missing.put_line.Goals as goal

pub returns-in-Ok-clause-puts : goal.returns-in-Ok-clause-puts
returns-in-Ok-clause-puts g c =
    let so_far = written_so_far c.write_whole-written.result (g.E.Write.contents c.args.errors.now.output) (g.E.Write.contents c.write_whole-written.new.output) c.as_bytes.result.now c.write_whole-written.ensures.whole c.write_whole-written.ensures.part in
    rw c.in-Ok.ensures.ok at rw c.as_bytes.ensures.value at so_far
