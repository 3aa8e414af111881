use Rattle.std.proofs.Common.{◌≡◌, ◌++◌, ◌-◌, map, length, drop}
use Rattle.dg_reads.proofs.chains.ids.Given as goal

abbrev pub invariant-loop-id : goal.invariant-loop-id
invariant-loop-id g l =
    l.ids.items ++ map (λ x. x.id) (drop (length l.ids.items) (g.G.CoreReads.graph l.graph).nodes) ≡ map (λ x. x.id) (g.G.CoreReads.graph l.graph).nodes

abbrev pub decreases-loop-id : goal.decreases-loop-id
decreases-loop-id g l = length (g.G.CoreReads.graph l.graph).nodes - length l.ids.items
