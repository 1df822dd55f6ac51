-- What was written so far is a beginning of the bytes.
use Rattle.std.{proofs.Common.{◌≤◌, length, take}, specs.Io.KnownBytes.{Appends}}
use Rattle.cacache_program.proofs.output.write_whole.Given as goal

abbrev pub invariant-loop : goal.invariant-loop
invariant-loop g l =
    (l.written ≤ length l.bytes)
    × Appends (g.W.Write.contents l.initial.output) (g.W.Write.contents l.output) (take l.written l.bytes)
