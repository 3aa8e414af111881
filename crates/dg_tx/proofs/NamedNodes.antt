-- What a reference to a node of an override names.
use Rattle.std.proofs.Common.{◌≡◌, Option, Some, None, refl, ap, ◌∙◌}
use Rattle.dg_base.specs.declared.ids.NodeId.{NodeId}
use Rattle.dg_base.specs.declared.step.NodeRef.{NodeRef}
use Rattle.dg_base.specs.declared.step.NodeRef.{In}
use Rattle.dg_base.specs.declared.step.NodeRef.TheBlock.{hidden-the_row-NodeRef-0}
use denote.Hole.Carrier.{hidden}
use Rattle.dg_base.specs.Graph.{Graph, override_in}
use Rattle.dg_base.specs.Progress.{Progress}
use Rattle.dg_base.specs.Steps.{override_named, id_named}

pub id_named-in : (p : Progress) (root original : NodeRef) → id_named p (In root original) ≡ override_named p.graph (id_named p root) (id_named p original)
unfolding hidden-the_row-NodeRef-0 hidden
id_named-in p root original = refl

no_root : (g : Graph) (original : Option NodeId) → override_named g None original ≡ None
no_root g original = refl

no_original : (g : Graph) (root : Option NodeId) → override_named g root None ≡ None
no_original g None = refl
no_original g (Some n) = refl

-- of a reference that is one to a node of an override
pub in_no_root : (p : Progress) (r root original : NodeRef) → r ≡ In root original → id_named p root ≡ None → id_named p r ≡ None
in_no_root p r root original is none =
    ap (id_named p) is ∙ id_named-in p root original ∙ ap (λ (o : Option NodeId). override_named p.graph o (id_named p original)) none ∙ no_root p.graph (id_named p original)

pub in_no_original : (p : Progress) (r root original : NodeRef) → r ≡ In root original → id_named p original ≡ None → id_named p r ≡ None
in_no_original p r root original is none =
    ap (id_named p) is ∙ id_named-in p root original ∙ ap (override_named p.graph (id_named p root)) none ∙ no_original p.graph (id_named p root)

pub in_both : (p : Progress) (r root original : NodeRef) (n m : NodeId) → r ≡ In root original → id_named p root ≡ Some n → id_named p original ≡ Some m →
    id_named p r ≡ override_in p.graph n m
in_both p r root original n m is one two =
    ap (id_named p) is ∙ id_named-in p root original
    ∙ ap (λ (o : Option NodeId). override_named p.graph o (id_named p original)) one
    ∙ ap (override_named p.graph (Some n)) two
