use Rattle.std.proofs.Common.{All, refl, subst}
use Rattle.cacache_shared.specs.Seats.{SeatAgrees}
use Rattle.cacache_shared.proofs.shared.SharedWorld.close.Goals as goal

pub returns-clause-each : goal.returns-clause-each
returns-clause-each g c =
    subst (All (SeatAgrees c.args.self.from c.into_inner-inside.result.world.records)) c.as_slice-else-not-count_all.ensures.value (c.if-not-all_agree.ensures refl)
