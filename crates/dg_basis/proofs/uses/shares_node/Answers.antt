use denote.Param.Send.{sendable}
use Rattle.std.proofs.Crossing.{crosses}
use Rattle.dg_basis.proofs.Crosses.{Basis-send, Basis-sync, NodeRec-send, NodeRec-sync}
use Rattle.dg_basis.proofs.uses.shares_node.Goals as goal

pub is_shared-requires-send-X : goal.is_shared-requires-send-X
is_shared-requires-send-X c κs = search (Basis-send, Basis-sync, NodeRec-send, NodeRec-sync, sendable, crosses) depth 20

pub is_shared-requires-sync-X : goal.is_shared-requires-sync-X
is_shared-requires-sync-X c κs = search (Basis-send, Basis-sync, NodeRec-send, NodeRec-sync, sendable, crosses) depth 20
