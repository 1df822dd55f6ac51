-- What was read so far, the writer took.
use Rattle.std.{proofs.Common.{◌≡◌, ℕ, List}, specs.Io.KnownBytes.{Consumes}}
use Rattle.cacache_program.specs.WordStore.{WentOn}
use Rattle.cacache_program.proofs.storing.fill.Given as goal

abbrev pub invariant-loop-writer : goal.invariant-loop-writer
invariant-loop-writer g l =
    let file = g.S.File.FileHandle.seen in
    ((bytes : List ℕ) × Consumes (file l.fn.file).bytes (file l.file).bytes bytes
    × WentOn g.S.Temp.TempHandle.seen l.fn.writer bytes l.writer)
    × (l.env.store ≡ l.fn.env.store) × (l.env.clock ≡ l.fn.env.clock) × (l.env.names ≡ l.fn.env.names)
    × (l.env.base ≡ l.fn.env.base)

abbrev pub decreases-loop-writer : goal.decreases-loop-writer
decreases-loop-writer g l = (g.S.File.FileHandle.seen l.file).left
