use Rattle.std.proofs.Common.{◌≡◌, [], length, sum_by, MatchOption}
use Rattle.cacache_shared.proofs.closing.merge_seats.Given as goal

abbrev pub invariant-loop-seat : goal.invariant-loop-seat
invariant-loop-seat g l = MatchOption l.all (l.yielded ≡ []) (λ s. (s.parts ≡ length l.yielded) × (s.amount ≡ sum_by (λ p. p.records) l.yielded))
