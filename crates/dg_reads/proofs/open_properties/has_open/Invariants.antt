use Rattle.std.proofs.Common.{◌≡◌}
use Rattle.dg_base.specs.Chain.{chain}
use Rattle.dg_base.specs.Rule.{has_open}
use Rattle.dg_reads.proofs.open_properties.has_open.Given as goal

abbrev pub invariant-loop-origin : goal.invariant-loop-origin
invariant-loop-origin g l = has_open (chain (g.G.CoreReads.graph l.graph) l.at) l.label ≡ has_open (chain (g.G.CoreReads.graph l.graph) l.initial.at) l.label

abbrev pub decreases-loop-origin : goal.decreases-loop-origin
decreases-loop-origin g l = l.at.0
