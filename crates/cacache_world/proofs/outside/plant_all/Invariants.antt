use Rattle.std.proofs.Common.{◌≡◌, Ok, take}
use Rattle.cacache_core.specs.Paths.{home_of}
use Rattle.cacache_disk.specs.Tree.{bare}
use Rattle.cacache_value.specs.Placed.{with_files, LieApart}
use Rattle.cacache_world.proofs.Files.{ApartUpTo}
use Rattle.cacache_world.proofs.outside.plant_all.Given as goal

abbrev pub invariant-loop-i : goal.invariant-loop-i
invariant-loop-i l =
    LieApart (home_of l.cache) (take l.i l.outside) × (with_files bare (take l.i l.outside) ≡ Ok l.disk)
    × ApartUpTo l.cache l.outside l.i
