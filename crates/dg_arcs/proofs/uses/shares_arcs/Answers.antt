use denote.Param.Send.{sendable}
use Rattle.dg_arcs.proofs.Crosses.{Arcs-send, Arcs-sync}
use Rattle.dg_arcs.proofs.uses.shares_arcs.Goals as goal

pub is_shared-requires-send-X : goal.is_shared-requires-send-X
is_shared-requires-send-X c κs = search (Arcs-send, sendable)

pub is_shared-requires-sync-X : goal.is_shared-requires-sync-X
is_shared-requires-sync-X c κs = search (Arcs-sync, sendable)
