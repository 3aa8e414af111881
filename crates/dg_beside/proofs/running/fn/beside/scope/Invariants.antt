use Rattle.dg_beside.proofs.running.fn.beside.scope.Given as goal

abbrev pub decreases-loop-worker : goal.decreases-loop-worker
decreases-loop-worker g l = goal.left-loop-worker g l

abbrev pub decreases-loop-handle : goal.decreases-loop-handle
decreases-loop-handle g l = goal.left-loop-handle g l

abbrev pub decreases-loop-job : goal.decreases-loop-job
decreases-loop-job g l = goal.left-loop-job g l
