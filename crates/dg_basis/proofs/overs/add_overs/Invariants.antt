use Rattle.std.proofs.Common.{◌≡◌, ◌++◌, drop}
use Rattle.std.specs.List.{list_all}
use Rattle.dg_basis.specs.Keys.{is_over_one, overs_after}
use Rattle.dg_basis.proofs.overs.add_overs.Given as goal

abbrev pub invariant-loop-entry : goal.invariant-loop-entry
invariant-loop-entry l = record {
  so_far : l.found.items ++ overs_after l.node (drop l.entry-index l.run) ≡ l.initial.found.items ++ overs_after l.node l.run;
  all : list_all (is_over_one l.node) (drop l.entry-index l.run) ≡ list_all (is_over_one l.node) l.run;
}
