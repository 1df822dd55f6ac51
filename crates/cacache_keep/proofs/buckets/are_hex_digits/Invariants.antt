use Rattle.std.{proofs.Common.{◌≡◌, drop}, specs.List.{list_all}}
use Rattle.cacache_keep.specs.Buckets.{is_hex_digit}
use Rattle.cacache_keep.proofs.buckets.are_hex_digits.Given as goal

abbrev pub invariant-loop-byte : goal.invariant-loop-byte
invariant-loop-byte l = list_all is_hex_digit (drop l.byte-index l.bytes) ≡ list_all is_hex_digit l.bytes
