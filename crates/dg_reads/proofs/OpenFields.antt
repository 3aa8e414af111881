-- The values at open labels along a chain, by the own values of its nodes.
use Rattle.std.proofs.Common.{◌≡◌, List, [], ◌∷◌, ◌++◌, Option, Some, None, refl, sym, ap, ◌∙◌}
use Rattle.dg_base.specs.declared.ids.NodeId.{NodeId}
use Rattle.dg_base.specs.declared.datum.FieldOf.{FieldOf}
use Rattle.dg_base.specs.declared.graph.Node.{Node}
use Rattle.dg_base.specs.declared.graph.Origin.{Origin}
use Rattle.dg_base.specs.declared.graph.Origin.TheVariants as origin
use Rattle.dg_base.specs.Graph.{Graph, node_at, origin_of, origin_at, put_value}
use Rattle.dg_base.specs.Chain.{chain, above_origin}
use Rattle.dg_base.specs.Rule.{open_fields, overlaid}
use Rattle.dg_base.specs.Sound.{IsLinked}
use Rattle.dg_laws.proofs.Chains.{chain-at, chain-absent, chain-over}
use Rattle.dg_reads.specs.NodeReads.{open_of, own_open}
use Rattle.dg_reads.specs.OpenFields.{laid_by}
use Rattle.dg_reads.proofs.Origins.{HasOrigin-of}

-- the last one is laid first
pub overlaid-last : (fs : List FieldOf) (f : FieldOf) (others : List FieldOf) → overlaid (fs ++ f ∷ []) others ≡ overlaid fs (put_value others f.label f.value)
overlaid-last [] f others = refl
overlaid-last (h ∷ fs) f others = ap (λ (z : List FieldOf). put_value z h.label h.value) (overlaid-last fs f others)

pub laid_by-push : (g : Graph) (ns : List NodeId) (n : NodeId) (fs : List FieldOf) → laid_by g (ns ++ n ∷ []) fs ≡ laid_by g ns (overlaid (own_open g n) fs)
laid_by-push g [] n fs = refl
laid_by-push g (m ∷ ns) n fs = ap (overlaid (own_open g m)) (laid_by-push g ns n fs)

pub open_fields-over : {g : Graph} → IsLinked g → (n root original : NodeId) → origin_at g n ≡ Some (origin.Over root original) →
    open_fields (chain g n) ≡ overlaid (own_open g n) (open_fields (chain g original))
open_fields-over {g} l n root original e =
    let h = HasOrigin-of g n (origin.Over root original) e in
    ap open_fields (chain-over l n h.node root original h.at h.from)
    ∙ ap (λ (o : Option Node). overlaid (open_of o) (open_fields (chain g original))) (sym h.at)

-- at the end of a chain, and where there is no node
pub open_fields-end : {g : Graph} → IsLinked g → (n : NodeId) → ((root original : NodeId) → origin_at g n ≡ Some (origin.Over root original) → ⊥) →
    open_fields (chain g n) ≡ overlaid (own_open g n) []
open_fields-end {g} l n differs = by_node (node_at g n) refl
  where
    by_origin : (x : Node) (w : Origin) → node_at g n ≡ Some x → x.origin ≡ w → open_fields (x ∷ above_origin w (chain g)) ≡ overlaid (open_of (Some x)) []
    by_origin x (origin.Plain kind) is from = refl
    by_origin x (origin.Over root original) is from = absurd (differs root original (ap origin_of is ∙ ap Some from))

    by_node : (o : Option Node) → node_at g n ≡ o → open_fields (chain g n) ≡ overlaid (own_open g n) []
    by_node None is = ap open_fields (chain-absent g n is) ∙ ap (λ (o : Option Node). overlaid (open_of o) []) (sym is)
    by_node (Some x) is =
        ap open_fields (chain-at l n x is) ∙ by_origin x x.origin is refl ∙ ap (λ (o : Option Node). overlaid (open_of o) []) (sym is)
