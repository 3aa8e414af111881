use denote.Param.Send.{sendable}
use Rattle.std.proofs.Crossing.{crosses}
use Rattle.dg_worker.proofs.Crosses.{crosses_tasks}
use Rattle.dg_worker.proofs.uses.sends_back.Goals as goal

pub is_sent-requires-send-X : goal.is_sent-requires-send-X
is_sent-requires-send-X g c κs within =
    let a = c.type_bounds.send-J in let b = c.type_bounds.sync-J in search (crosses_tasks, sendable) depth 30
