use Rattle.std.{proofs.Common.{take}, specs.{Fmt.{HasWritten, IsPlainFormatter}, List.{flat_map}}}
use Rattle.cacache_core.proofs.Printed.{spaced}
use Rattle.cacache_core.proofs.integrity.whole.IntegrityDisplay.fmt.Given as goal

abbrev pub invariant-loop-hash : goal.invariant-loop-hash
invariant-loop-hash g l =
    IsPlainFormatter l.initial.f → HasWritten g.W.Write.write_str_gives l.initial.f (flat_map spaced (take l.hash-index l.hash-items)) l.f
