use Rattle.std.proofs.Common.{◌≡◌, ◌++◌, drop, flat_map}
use Rattle.dg_base.specs.Touched.{outputs_reading}
use Rattle.dg_reads.specs.ArgReads.{is_read}
use Rattle.dg_reads.proofs.readers.all_reading.Given as goal

abbrev pub invariant-loop-id : goal.invariant-loop-id
invariant-loop-id g l =
    l.ends.items ++ flat_map (λ n. outputs_reading g.S.Schema.tables (g.G.CoreReads.graph l.graph) (is_read (g.G.CoreReads.graph l.graph) n l.reads) n) (drop l.id-index l.ids)
    ≡ flat_map (λ n. outputs_reading g.S.Schema.tables (g.G.CoreReads.graph l.graph) (is_read (g.G.CoreReads.graph l.graph) n l.reads) n) l.ids
