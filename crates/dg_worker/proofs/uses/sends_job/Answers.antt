use denote.Param.Send.{sendable}
use Rattle.std.proofs.Crossing.{crosses}
use Rattle.dg_room.proofs.Crosses.{crosses_rooms}
use Rattle.dg_worker.proofs.uses.sends_job.Goals as goal

pub is_sent-requires-send-X : goal.is_sent-requires-send-X
is_sent-requires-send-X g c κs within =
    let a = c.type_bounds.send-J in let b = c.type_bounds.sync-J in search (crosses_rooms, crosses, sendable) depth 40
