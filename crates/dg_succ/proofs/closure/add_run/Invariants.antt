use Rattle.std.proofs.Common.{◌≡◌, ◌-◌, drop, length}
use Rattle.indexmap.specs.IndexSet.{insert_all}
use Rattle.dg_base.specs.Same.{same_end}
use Rattle.dg_succ.specs.Walked.{ends_after}
use Rattle.dg_succ.proofs.closure.add_run.Given as goal

abbrev pub invariant-loop-place : goal.invariant-loop-place
invariant-loop-place l = insert_all same_end l.found.keys (ends_after l.here (drop l.place l.pairs)) ≡ insert_all same_end l.initial.found.keys (ends_after l.here (drop l.start l.pairs))

abbrev pub decreases-loop-place : goal.decreases-loop-place
decreases-loop-place l = length l.pairs - l.place
