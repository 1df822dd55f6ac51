-- What was filled so far is the front of the buffer, and the reader gave it.
use Rattle.std.proofs.Common.{◌≡◌, ◌≤◌, length, take}
use Rattle.cacache_sync.proofs.content.Rests.{Gave}
use Rattle.cacache_sync.proofs.content.filling.fill.Given as goal

abbrev pub invariant-loop-tries : goal.invariant-loop-tries
invariant-loop-tries g l =
    (length l.buf ≡ length l.initial.buf) × (l.done ≤ length l.buf) × Gave g.R.Pieces.left g.R.Pieces.gave l.initial.reader l.reader (take l.done l.buf)
