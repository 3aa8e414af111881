use Rattle.std.proofs.Common.{◌≡◌, drop}
use Rattle.std.specs.List.{list_all}
use Rattle.indexmap.specs.IndexSet.{insert_all}
use Rattle.dg_base.specs.Same.{same_end}
use Rattle.dg_succ.specs.Walked.{begins_at, ends_after}
use Rattle.dg_succ.proofs.closure.add_chunk.Given as goal

abbrev pub invariant-loop-pair : goal.invariant-loop-pair
invariant-loop-pair l = record {
  so_far : insert_all same_end l.found.keys (ends_after l.here (drop l.pair-index l.run)) ≡ insert_all same_end l.initial.found.keys (ends_after l.here l.run);
  all : list_all (begins_at l.here) (drop l.pair-index l.run) ≡ list_all (begins_at l.here) l.run;
}
