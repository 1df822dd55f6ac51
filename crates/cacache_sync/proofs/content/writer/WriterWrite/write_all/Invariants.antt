-- What was handed over so far is a beginning of the buffer, and each write took some of it or was interrupted.
use Rattle.std.proofs.Common.{◌≤◌, ◌<◌, ◌^◌, ◌⊎◌, length, take}
use Rattle.cacache_sync.{specs.content.OpenWrites.{IsInterrupted}, proofs.content.Writes.{Went}}
use Rattle.cacache_sync.proofs.content.writer.WriterWrite.write_all.Given as goal

abbrev pub invariant-loop-tries : goal.invariant-loop-tries
invariant-loop-tries g l =
    (l.done ≤ length l.buf) × Went g.T.TempHandle.seen l.initial.self l.self (take l.done l.buf)
    × ((l._tries ≤ l.done) ⊎ IsInterrupted g.T.TempFile.writes) × (length l.buf < 2 ^ 64)
