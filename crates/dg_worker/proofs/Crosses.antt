-- What a worker works with and gives back may go to another thread.
use denote.RattleType.{RattleType}
use denote.Ref.{NamedLft}
use denote.Param.Send.{IsSend, IsSync, sendable}
use Rattle.std.proofs.Crossing.{crosses}
use Rattle.dg_base.proofs.datum.Datum.TheLaws.TheKnot as datum
use Rattle.dg_base.specs.contracts.answer.Answer as answer_type
use Rattle.dg_base.specs.contracts.answer.Fault as fault_type
use Rattle.dg_base.specs.contracts.answer.Faults as faults_type
use Rattle.dg_base.specs.contracts.answer.Held as held_type
use Rattle.dg_asks.specs.contracts.asking.Asking as asking_type
use Rattle.dg_asks.specs.contracts.solved.Solved as solved_type
use Rattle.dg_line.specs.contracts.ticket.Ticket as ticket_type
use Rattle.dg_line.specs.declared.ticket.Mark as mark
use Rattle.dg_pool.proofs.Crosses.{crosses_pools}
use Rattle.dg_room.proofs.Crosses.{crosses_rooms}
use Rattle.dg_room.specs.declared.names.RoomName as room_name
use Rattle.dg_pool.specs.declared.names.PoolName as pool_name
use Rattle.dg_worker.specs.contracts.job.Job as job_type
use Rattle.dg_worker.specs.contracts.task.Badge as badge_type
use Rattle.dg_worker.specs.contracts.task.Back as back_type
use Rattle.dg_worker.specs.contracts.task.Task as task_type

-- ---- answers

Fault-send : IsSend fault_type.the_row
Fault-send = search (sendable, crosses) depth 20

Fault-sync : IsSync fault_type.the_row
Fault-sync = search (sendable, crosses) depth 20

Faults-send : IsSend faults_type.the_row
Faults-send = search (Fault-send, sendable, crosses) depth 20

Faults-sync : IsSync faults_type.the_row
Faults-sync = search (Fault-sync, sendable, crosses) depth 20

Answer-send : IsSend answer_type.the_row
Answer-send = search (Faults-send, Faults-sync, sendable, crosses, datum.crosses) depth 40

Answer-sync : IsSync answer_type.the_row
Answer-sync = search (Faults-send, Faults-sync, sendable, crosses, datum.crosses) depth 40

Held-send : IsSend held_type.the_row
Held-send = search (Answer-send, Answer-sync, sendable, crosses) depth 20

-- ---- asks

module _ (M T : RattleType) (w : mark.Ghosts M.Denot T.Denot) where
  Ticket-send : IsSend M → IsSync M → IsSend T → IsSync T → IsSend (ticket_type.the_row M T w)
  Ticket-send a b c d = search (sendable, crosses) depth 20

  Asking-send : IsSend M → IsSync M → IsSend T → IsSync T → IsSend (asking_type.the_row M T w)
  Asking-send a b c d = search (Ticket-send, sendable, crosses) depth 20

  pub Job-send : IsSend M → IsSync M → IsSend T → IsSync T → IsSend (job_type.the_row M T w)
  Job-send a b c d = search (Asking-send, sendable, crosses) depth 20

  pub Solved-send : IsSend M → IsSync M → IsSend T → IsSync T → IsSend (solved_type.the_row M T w)
  Solved-send a b c d = search (Ticket-send, Held-send, sendable, crosses) depth 20

-- ---- workers

module _ (K N : RattleType) (k : room_name.Ghosts K.Denot) (n : pool_name.Ghosts N.Denot) where
  pub Badge-send : IsSend (badge_type.the_row K N k n)
  Badge-send = search (crosses_pools, crosses_rooms, sendable) depth 20

module _ (S B : RattleType) where
  pub Back-send : IsSend S → IsSend B → IsSend (back_type.the_row S B)
  Back-send a b = search (sendable, crosses) depth 20

module _ (a : NamedLft) (P Q G R B : RattleType) where
  pub Task-send : IsSync P → IsSync Q → IsSync G → IsSync R → IsSend B → IsSend (task_type.the_row a P Q G R B)
  Task-send p q g r b = search (sendable, crosses) depth 20

-- what a search needs for a task and for what it gives back
pub ruleset crosses_tasks = (Task-send, Back-send, Badge-send, Solved-send, Job-send, crosses_pools, crosses_rooms)
