use Rattle.std.proofs.Common.{◌≡◌, ◌∷◌, ◌++◌, drop}
use Rattle.json.specs.Token.{begin_array}
use Rattle.cacache_entry.specs.{FittingEntries.{EachIsByte}, Tokens.{byte_tokens}}
use Rattle.cacache_entry.proofs.write.write_array.Given as goal

abbrev pub invariant-loop-byte : goal.invariant-loop-byte
invariant-loop-byte l = record {
  before : l.out.before ≡ l.fn.out.before;
  tokens : l.out.tokens ++ byte_tokens (drop l.byte-index l.bytes) ≡ begin_array ∷ byte_tokens l.bytes;
  bytes : EachIsByte (drop l.byte-index l.bytes) → EachIsByte l.bytes;
}
