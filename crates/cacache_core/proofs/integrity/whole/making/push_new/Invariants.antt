use Rattle.std.{proofs.Common.{◌≡◌, take}, specs.List.{fold}}
use Rattle.cacache_core.specs.Matching.{with_hash}
use Rattle.cacache_core.proofs.integrity.whole.making.push_new.Given as goal

abbrev pub invariant-loop-hash : goal.invariant-loop-hash
invariant-loop-hash l =
    l.kept.items ≡ fold with_hash l.fn.kept.items (take l.hash-index l.hashes)
