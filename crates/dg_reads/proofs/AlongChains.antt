-- Marks, open values and the rule of a property, by a node's origin.
use Rattle.std.proofs.Common.{◌≡◌, true, false, ◌||◌, Option, Some, None, is_some, refl, sym, ap, ◌∙◌}
use Rattle.dg_base.specs.declared.ids.NodeId.{NodeId}
use Rattle.dg_base.specs.declared.ids.Label.{Label}
use Rattle.dg_base.specs.declared.ids.Kind.{Kind}
use Rattle.dg_base.specs.declared.datum.Datum.{Datum}
use Rattle.dg_base.specs.declared.graph.Node.{Node}
use Rattle.dg_base.specs.declared.graph.Origin.{Origin}
use Rattle.dg_base.specs.declared.graph.Origin.TheVariants as origin
use Rattle.dg_base.specs.Graph.{Graph, node_at, own_of, own_value, origin_of, origin_at, value_in}
use Rattle.dg_base.specs.Chain.{chain, above_origin}
use Rattle.dg_base.specs.Rule.{has_open, is_defective, property_rule}
use Rattle.dg_base.specs.Sound.{IsLinked}
use Rattle.dg_laws.proofs.Chains.{chain-at, chain-absent, chain-over, chain-plain}
use Rattle.dg_reads.specs.NodeReads.{mark_of, mark_at, property_from}
use Rattle.dg_reads.proofs.Origins.{HasOrigin-of, absent-of}

pub is_defective-over : {g : Graph} → IsLinked g → (n root original : NodeId) → origin_at g n ≡ Some (origin.Over root original) → mark_at g n ≡ false → is_defective (chain g n) ≡ is_defective (chain g original)
is_defective-over {g} l n root original e unset =
    let h = HasOrigin-of g n (origin.Over root original) e in
    let unmarked : h.node.defective ≡ false = sym (ap mark_of h.at) ∙ unset in
    ap is_defective (chain-over l n h.node root original h.at h.from) ∙ ap (λ b. b || is_defective (chain g original)) unmarked

pub is_defective-plain : {g : Graph} → IsLinked g → (n : NodeId) (k : Kind) → origin_at g n ≡ Some (origin.Plain k) → mark_at g n ≡ false → is_defective (chain g n) ≡ false
is_defective-plain {g} l n k e unset =
    let h = HasOrigin-of g n (origin.Plain k) e in
    let unmarked : h.node.defective ≡ false = sym (ap mark_of h.at) ∙ unset in
    ap is_defective (chain-plain l n h.node k h.at h.from) ∙ ap (λ b. b || false) unmarked

pub is_defective-here : {g : Graph} → IsLinked g → (n : NodeId) (w : Origin) → origin_at g n ≡ Some w → mark_at g n ≡ true → is_defective (chain g n) ≡ true
is_defective-here {g} l n w e set =
    let h = HasOrigin-of g n w e in
    let marked : h.node.defective ≡ true = sym (ap mark_of h.at) ∙ set in
    ap is_defective (chain-at l n h.node h.at) ∙ ap (λ b. b || is_defective (above_origin h.node.origin (chain g))) marked

pub is_defective-none : (g : Graph) (n : NodeId) → origin_at g n ≡ None → is_defective (chain g n) ≡ false
is_defective-none g n e = ap is_defective (chain-absent g n (absent-of g n e))

module _ (f : Label) where
  pub has_open-over : {g : Graph} → IsLinked g → (n root original : NodeId) → origin_at g n ≡ Some (origin.Over root original) → is_some (own_value g n f) ≡ false → has_open (chain g n) f ≡ has_open (chain g original) f
  has_open-over {g} l n root original e unset =
      let h = HasOrigin-of g n (origin.Over root original) e in
      let free : is_some (value_in h.node.own f) ≡ false = sym (ap (λ o. is_some (own_of o f)) h.at) ∙ unset in
      ap (λ xs. has_open xs f) (chain-over l n h.node root original h.at h.from) ∙ ap (λ b. b || has_open (chain g original) f) free

  pub has_open-plain : {g : Graph} → IsLinked g → (n : NodeId) (k : Kind) → origin_at g n ≡ Some (origin.Plain k) → is_some (own_value g n f) ≡ false → has_open (chain g n) f ≡ false
  has_open-plain {g} l n k e unset =
      let h = HasOrigin-of g n (origin.Plain k) e in
      let free : is_some (value_in h.node.own f) ≡ false = sym (ap (λ o. is_some (own_of o f)) h.at) ∙ unset in
      ap (λ xs. has_open xs f) (chain-plain l n h.node k h.at h.from) ∙ ap (λ b. b || false) free

  pub has_open-here : {g : Graph} → IsLinked g → (n : NodeId) (w : Origin) → origin_at g n ≡ Some w → is_some (own_value g n f) ≡ true → has_open (chain g n) f ≡ true
  has_open-here {g} l n w e set =
      let h = HasOrigin-of g n w e in
      let given : is_some (value_in h.node.own f) ≡ true = sym (ap (λ o. is_some (own_of o f)) h.at) ∙ set in
      ap (λ xs. has_open xs f) (chain-at l n h.node h.at) ∙ ap (λ b. b || has_open (above_origin h.node.origin (chain g)) f) given

  pub has_open-none : (g : Graph) (n : NodeId) → origin_at g n ≡ None → has_open (chain g n) f ≡ false
  has_open-none g n e = ap (λ xs. has_open xs f) (chain-absent g n (absent-of g n e))

pub property_rule-by : {g : Graph} → IsLinked g → (n : NodeId) (f : Label) (preset : Datum) → property_rule (chain g n) f preset ≡ property_from (origin_at g n) (own_value g n f) f preset
property_rule-by {g} l n f preset = by_node (node_at g n) refl
  where
    by_node : (o : Option Node) → node_at g n ≡ o → property_rule (chain g n) f preset ≡ property_from (origin_of (node_at g n)) (own_of (node_at g n) f) f preset
    by_node None is = ap (λ xs. property_rule xs f preset) (chain-absent g n is) ∙ sym (ap (λ o. property_from (origin_of o) (own_of o f) f preset) is)
    by_node (Some x) is = ap (λ xs. property_rule xs f preset) (chain-at l n x is) ∙ sym (ap (λ o. property_from (origin_of o) (own_of o f) f preset) is)
