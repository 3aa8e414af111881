use Rattle.std.proofs.Common.{◌≡◌, ◌++◌, drop, filter}
use Rattle.dg_base.specs.Rule.{ends_of}
use Rattle.dg_base.specs.Role.{is_output}
use Rattle.dg_reads.proofs.readers.add_outputs.Given as goal

abbrev pub invariant-loop-label : goal.invariant-loop-label
invariant-loop-label g l =
    l.ends.items ++ ends_of l.node (filter (λ i. is_output (g.S.Schema.tables.role l.kind i)) (drop l.label-index l.labels))
    ≡ l.initial.ends.items ++ ends_of l.node (filter (λ i. is_output (g.S.Schema.tables.role l.kind i)) l.labels)
