use Rattle.std.proofs.Common.{length}
use Rattle.cacache_keep.specs.Rewriting.{Took}
use Rattle.cacache_keep.proofs.rewriting.write_all.Given as goal

abbrev pub invariant-writes : goal.invariant-writes
invariant-writes g l =
    let file = g.S.Temp.TempHandle.seen in
    Took (file l.fn.file) l.fn.bytes (file l.file) l.rest (g.S.Store.log l.fn.store) (g.S.Store.log l.store)

abbrev pub decreases-writes : goal.decreases-writes
decreases-writes g l = length l.rest
