use Rattle.std.proofs.Common.{◌≡◌, drop}
use Rattle.indexmap.specs.IndexSet.{insert_all}
use Rattle.dg_base.specs.Same.{same_end}
use Rattle.dg_succ.proofs.closure.add_all.Given as goal

abbrev pub invariant-loop-end : goal.invariant-loop-end
invariant-loop-end l = insert_all same_end l.found.keys (drop l.end-index l.ends) ≡ insert_all same_end l.initial.found.keys l.ends
