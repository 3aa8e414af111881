use Rattle.std.proofs.Common.{◌≡◌, ◌++◌, drop}
use Rattle.std.specs.List.{list_all}
use Rattle.dg_arcs.specs.Kept.{comes_into, sources_after}
use Rattle.dg_arcs.proofs.reads.add_sources.Given as goal

abbrev pub invariant-loop-entry : goal.invariant-loop-entry
invariant-loop-entry l = record {
  so_far : l.sources.items ++ sources_after l.node l.input (drop l.entry-index l.run) ≡ l.initial.sources.items ++ sources_after l.node l.input l.run;
  all : list_all (comes_into l.node l.input) (drop l.entry-index l.run) ≡ list_all (comes_into l.node l.input) l.run;
}
