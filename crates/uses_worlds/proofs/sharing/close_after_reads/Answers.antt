use Rattle.std.{proofs.Common.{subst}, specs.Prelude.{All}}
use Rattle.cacache.specs.Shared.{SeatAgrees}
use Rattle.uses_worlds.proofs.Callers.{reads_are_right}
use Rattle.uses_worlds.proofs.sharing.close_after_reads.Goals as goal

pub returns : goal.returns
returns g c new =
    let world = c.in_ok-world.world in
    let agree = subst (λ from. All (SeatAgrees from world.records) c.args.seats.items) new c.in_ok-world.ensures.each in
    reads_are_right c.seat_laws.ensures.answered world c.stands.ensures.headline.legal c.args.seats.items agree
