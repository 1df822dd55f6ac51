-- What seats of a shared world hold, for the crates above.
pub use Rattle.cacache_shared.specs.declared.outcome.StormFault.TheVariants.{Count, Mismatch, Quit, Failed, World}
pub use Rattle.cacache_shared.specs.Answered.{AreAnswered, IsAnswered, IsGiven, SeatIsAnswered, SeatsAreAnswered, said_command, said_reply}
pub use Rattle.cacache_shared.specs.Lines.{moves, moves_of, commands_of, replies_of}
pub use Rattle.cacache_shared.specs.Seats.{Taken, fresh_seat, fresh_seats, with_command, HoldsTurn, SeatMoves, SeatTurns, SeatGoes, SeatAgrees}
pub use Rattle.cacache_shared.specs.Storms.{IsOutOfRange}
