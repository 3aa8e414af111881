use denote.Param.Send.{sendable}
use Rattle.std.proofs.Crossing.{crosses}
use Rattle.dg_room.proofs.Crosses.{crosses_rooms}
use Rattle.dg_crowd.proofs.crowd.publish_in_threads.Goals as goal

pub map_vec-requires-send-J : goal.map_vec-requires-send-J
map_vec-requires-send-J g c κs within =
    let d = c.type_bounds.send-K in
    search (crosses_rooms, crosses, sendable) depth 40 fits 20000

pub map_vec-requires-sync-F : goal.map_vec-requires-sync-F
map_vec-requires-sync-F g c κs within =
    let a = c.type_bounds.send-J in let b = c.type_bounds.sync-J in let d = c.type_bounds.send-R in let e = c.type_bounds.sync-R in
    search (crosses_rooms, crosses, sendable) depth 40 fits 20000
