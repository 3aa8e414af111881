use Rattle.std.proofs.Common.{◌≡◌}
use Rattle.dg_base.specs.Chain.{chain, holds}
use Rattle.dg_reads.proofs.chains.is_heir.Given as goal

abbrev pub invariant-loop-origin : goal.invariant-loop-origin
invariant-loop-origin g l = holds (chain (g.G.CoreReads.graph l.graph) l.at) l.node ≡ holds (chain (g.G.CoreReads.graph l.graph) l.initial.at) l.node

abbrev pub decreases-loop-origin : goal.decreases-loop-origin
decreases-loop-origin g l = l.at.0
