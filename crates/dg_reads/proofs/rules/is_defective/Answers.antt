use Rattle.std.proofs.Common.{rules, Some, sym, ap, ◌∙◌}
use Rattle.dg_reads.proofs.Origins.{original-below}
use Rattle.dg_reads.proofs.AlongChains.{is_defective-over, is_defective-plain}
use Rattle.dg_reads.proofs.rules.is_defective.Goals as goal

pub loop-origin-smaller : goal.loop-origin-smaller
loop-origin-smaller g c = original-below c.requires c.loop-origin.at c.in-Over.root c.in-Over.original (sym c.origin.ensures ∙ c.in-Some.is ∙ ap Some c.in-Over.is)

pub loop-origin-preserved : goal.loop-origin-preserved
loop-origin-preserved g c =
    sym (is_defective-over c.requires c.loop-origin.at c.in-Over.root c.in-Over.original (sym c.origin.ensures ∙ c.in-Some.is ∙ ap Some c.in-Over.is) (search rules))
    ∙ c.loop-origin.invariant

pub returns-in-Plain : goal.returns-in-Plain
returns-in-Plain g c =
    sym (is_defective-plain c.requires c.loop-origin.at c.in-Plain.field-0 (sym c.origin.ensures ∙ c.in-Some.is ∙ ap Some c.in-Plain.is) (search rules))
    ∙ c.loop-origin.invariant
