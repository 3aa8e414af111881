use Rattle.std.proofs.Common.{◌≡◌, ◌++◌, filter, drop}
use Rattle.dg_base.specs.Chain.{chain, holds}
use Rattle.dg_reads.proofs.chains.heirs_among.Given as goal

abbrev pub invariant-loop-id : goal.invariant-loop-id
invariant-loop-id g l =
    l.heirs.items ++ filter (λ m. holds (chain (g.G.CoreReads.graph l.graph) m) l.node) (drop l.id-index l.ids)
    ≡ filter (λ m. holds (chain (g.G.CoreReads.graph l.graph) m) l.node) l.ids
