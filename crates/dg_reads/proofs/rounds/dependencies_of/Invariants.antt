use Rattle.std.proofs.Common.{◌≡◌, ◌++◌, drop, map}
use Rattle.dg_reads.specs.DirtyRounds.{endpoint_dependencies}
use Rattle.dg_reads.proofs.rounds.dependencies_of.Given as goal

abbrev pub invariant-loop-end : goal.invariant-loop-end
invariant-loop-end g l =
    l.all.items ++ map (endpoint_dependencies g.S.Schema.tables (g.G.CoreReads.graph l.graph)) (drop l.end-index l.ends)
    ≡ map (endpoint_dependencies g.S.Schema.tables (g.G.CoreReads.graph l.graph)) l.ends
