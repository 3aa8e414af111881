use denote.Param.Send.{sendable}
use Rattle.std.proofs.Crossing.{crosses}
use Rattle.dg_worker.proofs.Crosses.{crosses_tasks}
use Rattle.dg_worker.proofs.uses.sends_task.Goals as goal

pub is_sent-requires-send-X : goal.is_sent-requires-send-X
is_sent-requires-send-X g c κs within =
    let a = c.type_bounds.send-J in let b = c.type_bounds.sync-J in let d = c.type_bounds.send-R in let e = c.type_bounds.sync-R in let h = c.type_bounds.sync-G in search (crosses_tasks, sendable) depth 30
