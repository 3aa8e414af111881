-- What a reference to a node of an override stands for.
use Rattle.std.proofs.Common.{◌≡◌, Option, Some, None, refl, ap, ◌∙◌}
use Rattle.dg_base.specs.declared.ids.NodeId.{NodeId}
use Rattle.dg_base.specs.declared.step.NodeRef.{NodeRef}
use Rattle.dg_base.specs.declared.step.NodeRef.{In}
use Rattle.dg_base.specs.declared.step.NodeRef.TheBlock.{hidden-the_row-NodeRef-0}
use denote.Hole.Carrier.{hidden}
use Rattle.dg_base.specs.Graph.{Graph, override_in}
use Rattle.dg_base.specs.Progress.{Progress}
use Rattle.dg_base.specs.Steps.{override_named, id_named}
use Rattle.dg_bind.specs.Question.{no_step_in, node_in}

id_named-in : (p : Progress) (root original : NodeRef) → id_named p (In root original) ≡ override_named p.graph (id_named p root) (id_named p original)
unfolding hidden-the_row-NodeRef-0 hidden
id_named-in p root original = refl

no_original : (g : Graph) (root : Option NodeId) → override_named g root None ≡ None
no_original g None = refl
no_original g (Some n) = refl

pub in_no_root : (g : Graph) (r root original : NodeRef) → r ≡ In root original → node_in g root ≡ None → node_in g r ≡ None
in_no_root g r root original is none =
    ap (node_in g) is ∙ id_named-in (no_step_in g) root original ∙ ap (λ (o : Option NodeId). override_named g o (node_in g original)) none

pub in_no_original : (g : Graph) (r root original : NodeRef) → r ≡ In root original → node_in g original ≡ None → node_in g r ≡ None
in_no_original g r root original is none =
    ap (node_in g) is ∙ id_named-in (no_step_in g) root original ∙ ap (override_named g (node_in g root)) none ∙ no_original g (node_in g root)

pub in_both : (g : Graph) (r root original : NodeRef) (n m : NodeId) → r ≡ In root original → node_in g root ≡ Some n → node_in g original ≡ Some m →
    node_in g r ≡ override_in g n m
in_both g r root original n m is one two =
    ap (node_in g) is ∙ id_named-in (no_step_in g) root original
    ∙ ap (λ (o : Option NodeId). override_named g o (node_in g original)) one
    ∙ ap (override_named g (Some n)) two
