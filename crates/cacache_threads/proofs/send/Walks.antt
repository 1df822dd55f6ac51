-- A walk may cross threads.
use denote.Param.Send.{IsSend, sendable}
use Rattle.std.proofs.Crossing.{crosses}
use Rattle.cacache_calls.specs.contracts.visit.Visit as Visit
use Rattle.cacache_calls.specs.contracts.visit.Task as Task
use Rattle.cacache_walks.specs.contracts.walk.Walk as Walk
use Rattle.cacache_threads.proofs.send.{Commands.{Found-send}, Values.{crosses_core}}

pub Visit-send : IsSend (Visit.the_field).row
Visit-send = search (crosses_core, crosses, sendable) depth 30 fits 20000

pub Task-send : IsSend (Task.the_field).row
Task-send = search (Visit-send, crosses_core, crosses, sendable) depth 30 fits 20000

pub Walk-send : IsSend (Walk.the_field).row
Walk-send = search (Found-send, Task-send, crosses_core, crosses, sendable) depth 30 fits 20000
