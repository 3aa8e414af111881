use Rattle.std.proofs.Common.{◌≡◌, length}
use Rattle.dg_base.specs.Chain.{chain}
use Rattle.dg_base.specs.Rule.{open_fields}
use Rattle.dg_reads.specs.OpenFields.{laid_by}
use Rattle.dg_reads.proofs.open_properties.fields_along.Given as goal

-- on the way up: what the nodes below lay over the values here
abbrev pub invariant-loop-original : goal.invariant-loop-original
invariant-loop-original g l =
    laid_by (g.G.CoreReads.graph l.graph) l.below.items (open_fields (chain (g.G.CoreReads.graph l.graph) l.at)) ≡ open_fields (chain (g.G.CoreReads.graph l.graph) l.initial.at)

abbrev pub decreases-loop-original : goal.decreases-loop-original
decreases-loop-original g l = l.at.0

-- on the way down: what the nodes that are left lay over what was found
abbrev pub invariant-loop-over : goal.invariant-loop-over
invariant-loop-over g l = laid_by (g.G.CoreReads.graph l.graph) l.below.items l.fields ≡ laid_by (g.G.CoreReads.graph l.graph) l.initial.below.items l.initial.fields

abbrev pub decreases-loop-over : goal.decreases-loop-over
decreases-loop-over g l = length l.below.items
