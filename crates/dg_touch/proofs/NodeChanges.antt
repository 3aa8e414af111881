-- A graph with and without some nodes: no rule differs but those of their endpoints, and of outputs that
-- read an input with a source on one of them.
use Rattle.std.proofs.Common.{◌≡◌, true, false, List, [], ◌∷◌, Option, Some, None, flat_map, Contains, inl, inr, refl, sym, ap, ◌∙◌, subst, true≢false}
use Rattle.std.proofs.lemmas.Bool.{cases_Bool, false_from_ne_true}
use Rattle.std.proofs.lemmas.List.Elements.{Contains-append_left, Contains-append_right}
use Rattle.dg_base.specs.declared.ids.NodeId.{NodeId}
use Rattle.dg_base.specs.declared.ids.Label.{Label}
use Rattle.dg_base.specs.declared.ids.Endpoint.{Endpoint}
use Rattle.dg_base.specs.declared.graph.Node.{Node}
use Rattle.dg_base.specs.declared.graph.Origin.{Origin}
use Rattle.dg_base.specs.declared.graph.Origin.TheVariants as origin
use Rattle.dg_base.specs.Order.{is_node_among, is_end_among}
use Rattle.dg_base.specs.Tables.{Tables, AreTables}
use Rattle.dg_base.specs.Graph.{Graph, node_at, override_in, explicit_sources}
use Rattle.dg_base.specs.Chain.{chain, kind_along}
use Rattle.dg_base.specs.Sources.{moved_to, replaced, inherited_along, explicit_or, sources_along}
use Rattle.dg_base.specs.Rule.{rule_along, rule_of, given_labels, endpoints_at, endpoints}
use Rattle.dg_base.specs.Sound.{IsLinked}
use Rattle.dg_base.specs.Touched.{is_input_arg, is_fed_by, outputs_reading, readers_of_nodes, touched_nodes}
use Rattle.dg_laws.proofs.Members.{Contains-head, Contains-tail, Contains-none, Contains-cases, Contains-map, Contains-from_map, Contains-flat_map, Contains-from_flat_map, list_any_from}
use Rattle.dg_laws.proofs.Among.{Contains_from_among}
use Rattle.dg_laws.proofs.Ids.{nodes_tell}
use Rattle.dg_laws.proofs.Nodes.{node_at-cases, node_at-in, node_at-id, has_node-at}
use Rattle.dg_laws.proofs.Chains.{along_originals, chain-absent, chain-plain, chain-over, kind-absent}
use Rattle.dg_laws.proofs.Sources.{override_in-is}
use Rattle.dg_laws.proofs.Endpoints.{covers}
use Rattle.dg_touch.specs.Reads.{WhereNone, SameInherited, SameAlong, ReadsInput}
use Rattle.dg_touch.proofs.Outside.{not_outside}
use Rattle.dg_touch.proofs.Reading.{rule_of-read}
use Rattle.dg_touch.proofs.Readers.{end, readers-has}

-- a graph and what is left of it without some nodes, which have their override nodes with them
pub record IsPart (big small : Graph) (ns : List NodeId) : Type 0 where
  pub kept : (n : NodeId) (x : Node) → node_at big n ≡ Some x → is_node_among ns n ≡ false → node_at small n ≡ Some x
  pub gone : (n : NodeId) → is_node_among ns n ≡ true → node_at small n ≡ None
  pub absent : (n : NodeId) → node_at big n ≡ None → node_at small n ≡ None
  pub explicit : (n : NodeId) (i : Label) → is_node_among ns n ≡ false →
      ((e : Endpoint) → Contains (explicit_sources big n i) e → is_node_among ns e.node ≡ false) → explicit_sources small n i ≡ explicit_sources big n i
  pub overs_kept : (root original m : NodeId) → override_in big root original ≡ Some m → is_node_among ns m ≡ false → override_in small root original ≡ Some m
  pub overs_none : (root original : NodeId) → override_in big root original ≡ None → override_in small root original ≡ None
  pub overs_gone : (m : NodeId) (x : Node) (root original : NodeId) → node_at big m ≡ Some x → x.origin ≡ origin.Over root original →
      is_node_among ns original ≡ true → is_node_among ns m ≡ true

module _ {big small : Graph} {ns : List NodeId} (l : IsLinked big) (r : IsLinked small) (p : IsPart big small ns) where
  original-free : (m : NodeId) (x : Node) (root original : NodeId) → node_at big m ≡ Some x → x.origin ≡ origin.Over root original →
      is_node_among ns m ≡ false → is_node_among ns original ≡ false
  original-free m x root original e o free = false_from_ne_true (is_node_among ns original) (λ h.
      true≢false (sym (p.overs_gone m x root original e o h) ∙ free))

  -- ---- chains

  -- the chain of a node that isn't among them stays, and its nodes are not among them
  pub record IsChainKept (n : NodeId) : Type 0 where
    pub same : chain small n ≡ chain big n
    pub free : (x : Node) → Contains (chain big n) x → is_node_among ns x.id ≡ false

  pub chain-part : (n : NodeId) → is_node_among ns n ≡ false → IsChainKept n
  chain-part n free =
      elim (node_at-cases big n) [
        | inl there ↦ along_originals l (λ z. is_node_among ns z ≡ false → IsChainKept z) step n (has_node-at big n there.0 there.1) free
        | inr none ↦
            let no_chain = chain-absent big n none in
            record {
              same = chain-absent small n (p.absent n none) ∙ sym no_chain;
              free = λ x c. Contains-none x (subst (λ (xs : List Node). Contains xs x) no_chain c);
            }
      ]
    where
      by_origin : (n : NodeId) (x : Node) (w : Origin) → node_at big n ≡ Some x → x.origin ≡ w →
          ((root original : NodeId) → x.origin ≡ origin.Over root original → is_node_among ns original ≡ false → IsChainKept original) →
          is_node_among ns n ≡ false → IsChainKept n
      by_origin n x (origin.Plain kind) e o above free =
          let here = chain-plain l n x kind e o in
          record {
            same = chain-plain r n x kind (p.kept n x e free) o ∙ sym here;
            free = λ y c. elim (Contains-cases x [] y (subst (λ (xs : List Node). Contains xs y) here c)) [
              | inl is ↦ ap (λ (z : Node). is_node_among ns z.id) (sym is) ∙ ap (is_node_among ns) (node_at-id big n x e) ∙ free
              | inr none ↦ Contains-none y none
            ];
          }
      by_origin n x (origin.Over root original) e o above free =
          let here = chain-over l n x root original e o in
          let rest = above root original o (original-free n x root original e o free) in
          record {
            same = chain-over r n x root original (p.kept n x e free) o ∙ ap (λ (z : List Node). x ∷ z) rest.same ∙ sym here;
            free = λ y c. elim (Contains-cases x (chain big original) y (subst (λ (xs : List Node). Contains xs y) here c)) [
              | inl is ↦ ap (λ (z : Node). is_node_among ns z.id) (sym is) ∙ ap (is_node_among ns) (node_at-id big n x e) ∙ free
              | inr further ↦ rest.free y further
            ];
          }

      step : (n : NodeId) (x : Node) → node_at big n ≡ Some x →
          ((root original : NodeId) → x.origin ≡ origin.Over root original → is_node_among ns original ≡ false → IsChainKept original) →
          is_node_among ns n ≡ false → IsChainKept n
      step n x e above free = by_origin n x x.origin e refl above free

  -- ---- sources

  -- where what stands for a source is free, so is the source
  free_by : (root : NodeId) (s : Endpoint) (o : Option NodeId) → override_in big root s.node ≡ o → is_node_among ns (moved_to s o).node ≡ false →
      is_node_among ns s.node ≡ false
  free_by root s None e free = free
  free_by root s (Some m) e free =
      let is = override_in-is l root s.node m e in
      original-free m is.node root s.node is.at is.over free

  same_over : (root : NodeId) (s : Endpoint) (o : Option NodeId) → override_in big root s.node ≡ o → is_node_among ns (moved_to s o).node ≡ false →
      override_in big root s.node ≡ override_in small root s.node
  same_over root s None e free = e ∙ sym (p.overs_none root s.node e)
  same_over root s (Some m) e free = e ∙ sym (p.overs_kept root s.node m e free)

  abbrev AreFree : List Endpoint → Type 0
  AreFree es = (e : Endpoint) → Contains es e → is_node_among ns e.node ≡ false

  -- where no source along a chain is on one of them, the same is read
  pub same_along-part : (xs : List Node) (i : Label) → ((x : Node) → Contains xs x → is_node_among ns x.id ≡ false) → AreFree (sources_along big xs i) →
      SameAlong big small xs i
  same_along-part [] i free all = tt
  same_along-part (x ∷ xs) i free all = (
    sym (p.explicit x.id i (free x (Contains-head x xs)) (own_free (explicit_sources big x.id i) all)),
    by_own (explicit_sources big x.id i) all (same_along-part xs i (λ y c. free y (Contains-tail x xs y c))),
  )
    where
      own_free : (es : List Endpoint) → AreFree (explicit_or es (inherited_along big x.origin (sources_along big xs i))) → AreFree es
      own_free [] all e c = Contains-none e c
      own_free (s ∷ ss) all e c = all e c

      by_origin : (w : Origin) → AreFree (inherited_along big w (sources_along big xs i)) → (AreFree (sources_along big xs i) → SameAlong big small xs i) →
          SameInherited big small w (sources_along big xs i) (SameAlong big small xs i)
      by_origin (origin.Plain kind) all above = tt
      by_origin (origin.Over root original) all above =
          let moved : (s : Endpoint) → Contains (sources_along big xs i) s → is_node_among ns (replaced big root s).node ≡ false =
          λ s c. all (replaced big root s) (Contains-map (replaced big root) (sources_along big xs i) s c) in (
            λ s c. same_over root s (override_in big root s.node) refl (moved s c),
            above (λ s c. free_by root s (override_in big root s.node) refl (moved s c)),
          )

      by_own : (es : List Endpoint) → AreFree (explicit_or es (inherited_along big x.origin (sources_along big xs i))) →
          (AreFree (sources_along big xs i) → SameAlong big small xs i) →
          WhereNone es (SameInherited big small x.origin (sources_along big xs i) (SameAlong big small xs i))
      by_own [] all above = by_origin x.origin all above
      by_own (s ∷ ss) all above = tt

-- ---- rules

-- an endpoint of the graph is one of its node's
Contains-endpoints_at : (t : Tables) (g : Graph) (e : Endpoint) → Contains (endpoints t g) e → Contains (endpoints_at t g e.node) e
Contains-endpoints_at t g e c =
    let x = Contains-from_flat_map (λ z. endpoints_at t g z.id) g.nodes e c in
    let label = Contains-from_map (end x.0.id) (given_labels t (chain g x.0.id) (kind_along (chain g x.0.id))) e x.2 in
    subst (λ (n : NodeId). Contains (endpoints_at t g n) e) (ap (λ (z : Endpoint). z.node) label.2) x.2

module _ {big small : Graph} {ns : List NodeId} (l : IsLinked big) (r : IsLinked small) (p : IsPart big small ns) {t : Tables} (laws : AreTables t) where
  -- one of the nodes
  rule-gone : (e : Endpoint) → is_node_among ns e.node ≡ true → is_end_among (touched_nodes t big ns) e ≡ false → rule_of t small e ≡ rule_of t big e
  rule-gone e among out =
      ap (rule_along t small (chain small e.node) e) (kind-absent small e.node (p.gone e.node among))
      ∙ elim (covers l laws e) [
        | inl there ↦
            not_outside (touched_nodes t big ns) e out (
            Contains-append_left (flat_map (endpoints_at t big) ns) (readers_of_nodes t big ns) e (
            Contains-flat_map (endpoints_at t big) ns e.node e (Contains_from_among nodes_tell ns e.node among) (Contains-endpoints_at t big e there)))
        | inr none ↦ sym none
      ]

  -- an output that reads one of them
  fed-touched : (e : Endpoint) (i : Label) → ReadsInput t big e i → is_fed_by big ns e.node i ≡ true → Contains (touched_nodes t big ns) e
  fed-touched e i reads feeds =
      Contains-append_right (flat_map (endpoints_at t big) ns) (readers_of_nodes t big ns) e (
      elim (node_at-cases big e.node) [
        | inl there ↦
            Contains-flat_map (λ x. outputs_reading t big (is_input_arg (is_fed_by big ns x.id)) x.id) big.nodes there.0 e (node_at-in big e.node there.0 there.1) (
            subst (λ (n : NodeId). Contains (outputs_reading t big (is_input_arg (is_fed_by big ns n)) n) e) (sym (node_at-id big e.node there.0 there.1)) (
            readers-has laws reads (is_fed_by big ns e.node) feeds))
        | inr none ↦ let kind = sym (kind-absent big e.node none) ∙ reads.is in let no : ⊥ = cc in absurd no
      ])

  pub rules-part : (e : Endpoint) → is_end_among (touched_nodes t big ns) e ≡ false → rule_of t small e ≡ rule_of t big e
  rules-part e out =
      elim (cases_Bool (is_node_among ns e.node)) [
        | inl among ↦ rule-gone e among out
        | inr free ↦
            let kept = chain-part l r p e.node free in
            sym (rule_of-read t big small e (record {
              chains = sym kept.same;
              sources = λ i reads. same_along-part l r p (chain big e.node) i kept.free (λ s d.
                  false_from_ne_true (is_node_among ns s.node) (λ among.
                  not_outside (touched_nodes t big ns) e out (
                  fed-touched e i reads (list_any_from (λ z. is_node_among ns z.node) (sources_along big (chain big e.node) i) s d among))));
            }))
      ]
