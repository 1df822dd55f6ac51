-- The records of a history may cross threads.
use denote.Param.Send.{IsSend, sendable}
use Rattle.std.proofs.Crossing.{crosses}
use Rattle.cacache_history.specs.contracts.record.Record as Record
use Rattle.cacache_threads.proofs.send.{Values.{Step-send, Answer-send, PlainFile-send, PlainTemp-send}, Commands.{Command-send, Reply-send}}

pub Record-send : IsSend (Record.the_field).row
Record-send = search (Command-send, Reply-send, Step-send, Answer-send, PlainFile-send, PlainTemp-send, crosses, sendable) depth 30 fits 20000
