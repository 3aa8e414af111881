use Rattle.std.proofs.Common.{◌≡◌, ◌++◌, drop, flat_map}
use Rattle.dg_base.specs.Rule.{endpoints_at}
use Rattle.dg_reads.proofs.ends.endpoints_of.Given as goal

abbrev pub invariant-loop-id : goal.invariant-loop-id
invariant-loop-id g l =
    l.ends.items ++ flat_map (endpoints_at g.S.Schema.tables (g.G.CoreReads.graph l.graph)) (drop l.id-index l.ids)
    ≡ flat_map (endpoints_at g.S.Schema.tables (g.G.CoreReads.graph l.graph)) l.ids
