use Rattle.std.proofs.Common.{◌≡◌}
use Rattle.dg_base.specs.Chain.{chain}
use Rattle.dg_base.specs.Rule.{is_defective}
use Rattle.dg_reads.proofs.rules.is_defective.Given as goal

abbrev pub invariant-loop-origin : goal.invariant-loop-origin
invariant-loop-origin g l = is_defective (chain (g.G.CoreReads.graph l.graph) l.at) ≡ is_defective (chain (g.G.CoreReads.graph l.graph) l.initial.at)

abbrev pub decreases-loop-origin : goal.decreases-loop-origin
decreases-loop-origin g l = l.at.0
