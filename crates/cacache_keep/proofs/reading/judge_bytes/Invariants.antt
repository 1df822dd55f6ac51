use Rattle.std.{proofs.Common.{◌≡◌, ◌-◌, ◌^◌, ℕ, List, length}, specs.Prelude.{min}}
use Rattle.cacache_core.specs.Hashers.{Compares}
use Rattle.cacache_keep.specs.Reading.{Gave}
use Rattle.cacache_keep.proofs.reading.judge_bytes.Given as goal

abbrev pub invariant-pieces : goal.invariant-pieces
invariant-pieces g l =
    let file = g.S.File.FileHandle.seen in
    (bytes : List ℕ) × Compares l.checker l.sri bytes × (l.size ≡ min (length bytes) (2 ^ 64 - 1)) × Gave (file l.fn.file) bytes (file l.file) (g.S.Store.log l.fn.store) (g.S.Store.log l.store)

abbrev pub decreases-pieces : goal.decreases-pieces
decreases-pieces g l = (g.S.File.FileHandle.seen l.file).left
