use denote.Param.Send.{sendable}
use Rattle.std.proofs.Crossing.{crosses}
use Rattle.dg_room.proofs.Crosses.{crosses_rooms}
use Rattle.dg_room.proofs.uses.evict_twice.Goals as goal

pub join-requires-send-F : goal.join-requires-send-F
join-requires-send-F g c κs within =
    let a = c.type_bounds.send-S in let b = c.type_bounds.sync-S in let d = c.type_bounds.send-J in let e = c.type_bounds.sync-J in
    let f = c.type_bounds.send-R in let h = c.type_bounds.sync-R in
    search (crosses_rooms, crosses, sendable) depth 40 fits 20000
