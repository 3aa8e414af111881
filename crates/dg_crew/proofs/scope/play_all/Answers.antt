use denote.Param.Send.{sendable}
use Rattle.dg_worker.proofs.Crosses.{crosses_tasks}
use Rattle.dg_crew.proofs.scope.play_all.Goals as goal

pub play_beside-requires-send-W : goal.play_beside-requires-send-W
play_beside-requires-send-W g c κs within =
    let a = c.type_bounds.send-J in let b = c.type_bounds.sync-J in let d = c.type_bounds.send-R in let e = c.type_bounds.sync-R in let h = c.type_bounds.sync-G in
    search (crosses_tasks, sendable) depth 30

pub play_beside-requires-send-W-Back : goal.play_beside-requires-send-W-Back
play_beside-requires-send-W-Back g c κs within =
    let a = c.type_bounds.send-J in let b = c.type_bounds.sync-J in search (crosses_tasks, sendable) depth 30
