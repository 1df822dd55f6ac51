use Rattle.std.proofs.Common.{drop}
use Rattle.cacache_entry.specs.FittingEntries.{EachIsByte}
use Rattle.cacache_calls.proofs.values.look_through_bytes.Given as goal

abbrev pub invariant-loop-byte : goal.invariant-loop-byte
invariant-loop-byte l = EachIsByte (drop l.byte-index l.bytes) → EachIsByte l.bytes
