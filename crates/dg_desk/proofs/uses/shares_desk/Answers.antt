use denote.Param.Send.{sendable}
use Rattle.dg_desk.proofs.Crosses.{Desk-send, Desk-sync}
use Rattle.dg_desk.proofs.uses.shares_desk.Goals as goal

pub is_shared-requires-send-X : goal.is_shared-requires-send-X
is_shared-requires-send-X g c κs within =
    let a = c.type_bounds.send-M in let b = c.type_bounds.sync-M in let d = c.type_bounds.send-M-Of in let e = c.type_bounds.sync-M-Of in
    search (Desk-send, sendable) depth 20

pub is_shared-requires-sync-X : goal.is_shared-requires-sync-X
is_shared-requires-sync-X g c κs within =
    let a = c.type_bounds.send-M in let b = c.type_bounds.sync-M in let d = c.type_bounds.send-M-Of in let e = c.type_bounds.sync-M-Of in
    search (Desk-sync, sendable) depth 20
