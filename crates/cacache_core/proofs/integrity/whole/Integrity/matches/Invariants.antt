use Rattle.std.{proofs.Common.{◌≡◌, ℕ, ◌<◌, List, get_or}, specs.Prelude.{Contains}}
use Rattle.cacache_core.specs.Integrity.{hash_of}
use Rattle.cacache_core.proofs.integrity.whole.Integrity.matches.Given as goal

abbrev pub invariant-loop-hash : goal.invariant-loop-hash
invariant-loop-hash l =
    (k : ℕ) (d : List ℕ) → k < l.hash-index → get_or l.hash-items k (hash_of l.algorithm d) ≡ hash_of l.algorithm d → Contains l.self (hash_of l.algorithm d) → ⊥
