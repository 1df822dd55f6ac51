use Rattle.std.specs.Prelude.{◌≡◌, ℕ, List, length}
use Rattle.cacache_core.specs.Hashers.{Holds}
use Rattle.cacache_calls.specs.{Runs.{Gone}, State.{hashing, to_link}, declared.target.Target.{Target}}
use Rattle.cacache_sync.specs.put.OpenLinkers.{HoldsOn}
use Rattle.cacache_sync.proofs.put.rest.read_rest.Given as goal

abbrev pub invariant-pieces : goal.invariant-pieces
invariant-pieces g l =
    let file = g.S.File.FileHandle.seen in
    (t : Target ℕ) (bytes : List ℕ) → Holds l.fn.hasher bytes → l.fn.before ≡ length bytes
    → (all : List ℕ) × HoldsOn l.fn.hasher l.hasher all × (l.count ≡ length all)
    × Gone (hashing (to_link t) (file l.fn.file) bytes) (hashing (to_link t) (file l.file) all) (g.S.Store.log l.fn.store) (g.S.Store.log l.store)

abbrev pub decreases-pieces : goal.decreases-pieces
decreases-pieces g l = (g.S.File.FileHandle.seen l.file).left
