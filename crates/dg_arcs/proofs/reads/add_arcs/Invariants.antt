use Rattle.std.proofs.Common.{◌≡◌, ◌++◌, drop}
use Rattle.std.specs.List.{list_all}
use Rattle.dg_arcs.specs.Kept.{goes_out_of, arcs_after}
use Rattle.dg_arcs.proofs.reads.add_arcs.Given as goal

abbrev pub invariant-loop-entry : goal.invariant-loop-entry
invariant-loop-entry l = record {
  so_far : l.arcs.items ++ arcs_after l.node (drop l.entry-index l.run) ≡ l.initial.arcs.items ++ arcs_after l.node l.run;
  all : list_all (goes_out_of l.node) (drop l.entry-index l.run) ≡ list_all (goes_out_of l.node) l.run;
}
