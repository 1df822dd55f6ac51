-- The bytes so far are escaped.
use Rattle.std.proofs.Common.{◌≡◌, ◌++◌, take}
use Rattle.cacache_program.specs.Escaping.{escaped}
use Rattle.cacache_program.proofs.keep.escaping.push_escaped.Given as goal

abbrev pub invariant-loop-byte : goal.invariant-loop-byte
invariant-loop-byte l = l.text.items ≡ l.initial.text.items ++ escaped (take l.byte-index l.byte-items)
