use Rattle.std.proofs.Common.{◌≡◌, ◌+◌, sum_by, take}
use Rattle.cacache_shared.specs.Lines.{moves}
use Rattle.cacache_shared.proofs.counting.count_all.Given as goal

abbrev pub invariant-loop-seat : goal.invariant-loop-seat
invariant-loop-seat g l =
    l.left + sum_by (λ s. s.count) (take l.seat-index l.seats) ≡ moves l.world.records
