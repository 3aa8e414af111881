use Rattle.std.proofs.Common.{List, Some, sym, ap, ◌∙◌}
use Rattle.dg_base.specs.declared.ids.NodeId.{NodeId}
use Rattle.dg_base.specs.Chain.{chain}
use Rattle.dg_base.specs.Rule.{open_fields}
use Rattle.dg_reads.specs.OpenFields.{laid_by}
use Rattle.dg_reads.proofs.Origins.{original-below}
use Rattle.dg_reads.proofs.OpenFields.{laid_by-push, open_fields-over}
use Rattle.dg_reads.proofs.open_properties.fields_along.Goals as goal

pub loop-original-smaller : goal.loop-original-smaller
loop-original-smaller g c =
    original-below c.requires c.loop-original.at c.in-Some-Over.field-0-0 c.in-Some-Over.original
    (sym c.origin.ensures ∙ c.in-Some-Over.is ∙ ap Some c.in-Some-Over.field-0-is)

pub loop-original-preserved : goal.loop-original-preserved
loop-original-preserved g c =
    let graph = g.G.CoreReads.graph c.args.graph.now in
    ap (λ (ns : List NodeId). laid_by graph ns (open_fields (chain graph c.in-Some-Over.original))) c.in_ok-push.ensures.items
    ∙ laid_by-push graph c.loop-original.below.items c.loop-original.at (open_fields (chain graph c.in-Some-Over.original))
    ∙ ap (laid_by graph c.loop-original.below.items)
    (sym (open_fields-over c.requires c.loop-original.at c.in-Some-Over.field-0-0 c.in-Some-Over.original
    (sym c.origin.ensures ∙ c.in-Some-Over.is ∙ ap Some c.in-Some-Over.field-0-is)))
    ∙ c.loop-original.invariant

pub loop-over-preserved : goal.loop-over-preserved
loop-over-preserved g c =
    let graph = g.G.CoreReads.graph c.args.graph.now in
    ap (laid_by graph c.pop.new.self.items) c.in_ok-lay_own-2.ensures
    ∙ sym (laid_by-push graph c.pop.new.self.items c.in-Some.over c.loop-over.fields)
    ∙ ap (λ (ns : List NodeId). laid_by graph ns c.loop-over.fields) (sym c.in-Some.ensures.items)
    ∙ c.loop-over.invariant
