-- What was read so far left the reader, and went to the writer.
use Rattle.cacache_sync.proofs.content.Rests.{Passed}
use Rattle.cacache_sync.proofs.content.draining.drain.Given as goal

abbrev pub invariant-loop-tries : goal.invariant-loop-tries
invariant-loop-tries g l =
    Passed g.F.FileHandle.seen l.initial.reader l.reader (g.W.Write.contents l.initial.out) (g.W.Write.contents l.out) l.count
