use Rattle.std.proofs.lemmas.Result.{err_from_is_err_and}
use Rattle.cacache_sync.proofs.content.Rests.{check_fails}
use Rattle.cacache_sync.proofs.content.reader.SyncReader.copy_to.Goals as goal

pub returns-in_err-check : goal.returns-in_err-check
returns-in_err-check g c =
    let x = c.in_ok-count.ensures.passes in
    let is = c.in_err-check.ensures in
    let same = err_from_is_err_and c.from_residual-in_err-check.result c.from_residual-in_err-check.ensures.1 in
    record {
      copies = λ i bytes had.
          let all = x.2 i bytes had in
          rw (same.1, same.2) (check_fails (g.F.FileHandle.seen c.args.self.file) i bytes x.0 x.1 c.in_err-check.field-0.0 (is.ok i _ all, is.met i _ all, is.err i _ all));
    }
