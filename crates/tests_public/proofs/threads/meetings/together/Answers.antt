use denote.Param.Send.{plain_sync, param_sync, arg_sync, shr_sync, struct_sync, recorded_sync, sendable}
use Rattle.cacache_shared.proofs.Crossing.{Seat-send, SharedWorld-sync, Global-sync}
use Rattle.tests_public.proofs.threads.meetings.together.Goals as goal

pub map_vec-requires-send-J : goal.map_vec-requires-send-J
map_vec-requires-send-J g c κs within = search (Seat-send, sendable)

pub map_vec-requires-send-X : goal.map_vec-requires-send-X
map_vec-requires-send-X g c κs within = search (Seat-send, sendable)

-- all of `sendable` spends its steps elsewhere
pub map_vec-requires-sync-F : goal.map_vec-requires-sync-F
map_vec-requires-sync-F g c κs within =
    search (SharedWorld-sync, Global-sync, plain_sync, param_sync, arg_sync, shr_sync, struct_sync, recorded_sync) depth 20 fits 20000
