use Rattle.std.proofs.Common.{◌≡◌, ◌++◌, drop, filter}
use Rattle.std.specs.List.{list_any}
use Rattle.dg_base.specs.Rule.{ends_of}
use Rattle.dg_base.specs.Role.{is_output}
use Rattle.dg_reads.specs.ArgReads.{is_read}
use Rattle.dg_reads.proofs.readers.add_reading.Given as goal

abbrev pub invariant-loop-label : goal.invariant-loop-label
invariant-loop-label g l =
    l.ends.items ++ ends_of l.node (filter (λ i. list_any (is_read (g.G.CoreReads.graph l.graph) l.node l.reads) (g.S.Schema.tables.args l.kind i)) (filter (λ i. is_output (g.S.Schema.tables.role l.kind i)) (drop l.label-index l.labels)))
    ≡ l.initial.ends.items ++ ends_of l.node (filter (λ i. list_any (is_read (g.G.CoreReads.graph l.graph) l.node l.reads) (g.S.Schema.tables.args l.kind i)) (filter (λ i. is_output (g.S.Schema.tables.role l.kind i)) l.labels))
