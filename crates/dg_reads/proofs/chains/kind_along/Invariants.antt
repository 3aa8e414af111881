use Rattle.std.proofs.Common.{◌≡◌}
use Rattle.dg_base.specs.Chain.{kind_of}
use Rattle.dg_reads.proofs.chains.kind_along.Given as goal

abbrev pub invariant-loop-original : goal.invariant-loop-original
invariant-loop-original g l = kind_of (g.G.CoreReads.graph l.graph) l.at ≡ kind_of (g.G.CoreReads.graph l.graph) l.initial.at

abbrev pub decreases-loop-original : goal.decreases-loop-original
decreases-loop-original g l = l.at.0
