use denote.Param.Send.{sendable}
use Rattle.std.proofs.Crossing.{crosses}
use Rattle.dg_room.proofs.Crosses.{crosses_rooms}
use Rattle.dg_crowd.proofs.crowd.play_all.Goals as goal

pub join-back-requires-send-F : goal.join-back-requires-send-F
join-back-requires-send-F g c κs within =
    let a = c.type_bounds.send-J in let b = c.type_bounds.sync-J in let d = c.type_bounds.send-R in let e = c.type_bounds.sync-R in
    search (crosses_rooms, crosses, sendable) depth 40 fits 20000
