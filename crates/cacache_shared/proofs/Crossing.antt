-- A shared world may be shared by threads, and a seat and what a thread hands back may go to another thread.
use denote.RattleType.{RattleType}
use denote.Param.Send.{IsSend, IsSync, sendable}
use Rattle.std.proofs.{Crossing.{crosses}, sync.ledger.{Book.TheSendSync.{the_send as book_send}, Share.TheSendSync.{the_send as share_send}}}
use Rattle.std.specs.declared.sync.ledger.Ledger.{Ghosts}
use Rattle.std.specs.contracts.alloc.Global as Global
use Rattle.cacache_world.specs.contracts.world.World as World
use Rattle.cacache_threads.proofs.send.{Values.{PlainFile-send, PlainTemp-send, crosses_core, Disk-send}, Commands.{Command-send, Reply-send}, History.{Record-send}, Jobs.{Job-send}}
use Rattle.cacache_shared.specs.contracts.inside.Inside as Inside
use Rattle.cacache_shared.specs.contracts.seat.Seat as Seat
use Rattle.cacache_shared.specs.contracts.shared.SharedWorld as SharedWorld
use Rattle.cacache_shared.specs.contracts.running.Ended as Ended

pub World-send : IsSend (World.the_field).row
World-send = search (Job-send, PlainFile-send, PlainTemp-send, Disk-send, Record-send, crosses_core, crosses, sendable) depth 30 fits 20000

pub Global-sync : IsSync Global.the_row
Global-sync = search sendable depth 20

module _ (L : RattleType) (g : Ghosts L.Denot) where
  pub Seat-send : IsSend (Seat.the_field L g).row
  Seat-send = search (share_send, Command-send, Reply-send, crosses, sendable) depth 30 fits 20000

  pub Ended-send : IsSend (Ended.the_field L g).row
  Ended-send = search (Seat-send, crosses_core, crosses, sendable) depth 30 fits 20000

  Inside-send : IsSend (Inside.the_field L g).row
  Inside-send = search (World-send, book_send, crosses, sendable) depth 30 fits 20000

  pub SharedWorld-sync : IsSync (SharedWorld.the_row L g)
  SharedWorld-sync = search (Inside-send, crosses, sendable) depth 30 fits 20000
