use denote.Param.Send.{sendable}
use Rattle.dg_room.proofs.Crosses.{crosses_rooms}
use Rattle.dg_room.proofs.uses.sends_locked.Goals as goal

pub is_sent-requires-send-X : goal.is_sent-requires-send-X
is_sent-requires-send-X g c κs within =
    let a = c.type_bounds.send-M in let b = c.type_bounds.sync-M in let d = c.type_bounds.send-M-Of in let e = c.type_bounds.sync-M-Of in
    search (crosses_rooms, sendable) depth 20
