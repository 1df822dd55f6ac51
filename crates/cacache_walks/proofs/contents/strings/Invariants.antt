use Rattle.std.proofs.Common.{◌≡◌, map, string_bytes}
use Rattle.cacache_walks.proofs.contents.strings.Given as goal

abbrev pub invariant-loop-text : goal.invariant-loop-text
invariant-loop-text l = map string_bytes l.strings.items ≡ l.yielded
