use denote.Param.Send.{sendable}
use Rattle.dg_room.proofs.Crosses.{crosses_rooms}
use Rattle.dg_room.proofs.uses.shares_room.Goals as goal

pub is_shared-requires-send-X : goal.is_shared-requires-send-X
is_shared-requires-send-X g c κs within =
    let a = c.type_bounds.send-S in let b = c.type_bounds.sync-S in let d = c.type_bounds.send-J in let e = c.type_bounds.sync-J in
    let f = c.type_bounds.send-R in let h = c.type_bounds.sync-R in
    search (crosses_rooms, sendable) depth 30

pub is_shared-requires-sync-X : goal.is_shared-requires-sync-X
is_shared-requires-sync-X g c κs within =
    let a = c.type_bounds.send-S in let b = c.type_bounds.sync-S in let d = c.type_bounds.send-J in let e = c.type_bounds.sync-J in
    let f = c.type_bounds.send-R in let h = c.type_bounds.sync-R in
    search (crosses_rooms, sendable) depth 30
