use denote.Param.Send.{sendable}
use Rattle.dg_desk.proofs.Crosses.{Revision-send, Revision-sync}
use Rattle.dg_desk.proofs.uses.shares_shared_desk.Goals as goal

pub shares_desk-requires-send-M-Of : goal.shares_desk-requires-send-M-Of
shares_desk-requires-send-M-Of g c κs within =
    let a = c.type_bounds.send-S in let b = c.type_bounds.sync-S in
    search (Revision-send, sendable) depth 20

pub shares_desk-requires-sync-M-Of : goal.shares_desk-requires-sync-M-Of
shares_desk-requires-sync-M-Of g c κs within =
    let a = c.type_bounds.send-S in let b = c.type_bounds.sync-S in
    search (Revision-sync, sendable) depth 20
