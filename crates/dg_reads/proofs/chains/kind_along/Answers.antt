use Rattle.std.proofs.Common.{Some, sym, ap, ◌∙◌}
use Rattle.dg_reads.proofs.Origins.{kind-from_over, original-below}
use Rattle.dg_reads.proofs.chains.kind_along.Goals as goal

pub loop-original-smaller : goal.loop-original-smaller
loop-original-smaller g c =
    original-below c.requires c.loop-original.at c.in-Some-Over.field-0-0 c.in-Some-Over.original
    (sym c.origin.ensures ∙ c.in-Some-Over.is ∙ ap Some c.in-Some-Over.field-0-is)

pub loop-original-preserved : goal.loop-original-preserved
loop-original-preserved g c =
    sym (kind-from_over c.requires c.loop-original.at c.in-Some-Over.field-0-0 c.in-Some-Over.original
    (sym c.origin.ensures ∙ c.in-Some-Over.is ∙ ap Some c.in-Some-Over.field-0-is))
    ∙ c.loop-original.invariant
