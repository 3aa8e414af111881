use Rattle.std.proofs.Common.{rules, Some, sym, ap, ◌∙◌}
use Rattle.dg_reads.proofs.Origins.{original-below, holds-from_over, holds-from_plain, holds-from_same}
use Rattle.dg_reads.proofs.chains.is_heir.Goals as goal

pub returns-then-at-node : goal.returns-then-at-node
returns-then-at-node g c =
    sym (holds-from_same c.requires c.loop-origin.at c.in-Some.origin c.args.node (sym c.origin.ensures ∙ c.in-Some.is) (search rules)) ∙ c.loop-origin.invariant

pub loop-origin-smaller : goal.loop-origin-smaller
loop-origin-smaller g c = original-below c.requires c.loop-origin.at c.in-Over.root c.in-Over.original (sym c.origin.ensures ∙ c.in-Some.is ∙ ap Some c.in-Over.is)

pub loop-origin-preserved : goal.loop-origin-preserved
loop-origin-preserved g c =
    sym (holds-from_over c.requires c.loop-origin.at c.in-Over.root c.in-Over.original c.args.node (sym c.origin.ensures ∙ c.in-Some.is ∙ ap Some c.in-Over.is) (search rules))
    ∙ c.loop-origin.invariant

pub returns-in-Plain : goal.returns-in-Plain
returns-in-Plain g c =
    sym (holds-from_plain c.requires c.loop-origin.at c.in-Plain.field-0 c.args.node (sym c.origin.ensures ∙ c.in-Some.is ∙ ap Some c.in-Plain.is) (search rules))
    ∙ c.loop-origin.invariant
