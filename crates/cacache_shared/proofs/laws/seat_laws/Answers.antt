use Rattle.cacache_shared.proofs.Answered.{seats_are_answered}
use Rattle.cacache_shared.proofs.laws.seat_laws.Goals as goal

pub returns : goal.returns
returns c = record { answered = seats_are_answered }
