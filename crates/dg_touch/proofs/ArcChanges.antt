-- Arcs into one input change no rule but those of the outputs that read it, at the heirs of its node.
use Rattle.std.proofs.Common.{◌≡◌, zero, suc, ℕ, true, false, cond, not, ◌&&◌, List, [], ◌∷◌, ◌++◌, Option, Some, None, map, filter, length, Contains, inl, inr, refl, sym, ap, ◌∙◌, true≢false, append-nil}
use Rattle.std.proofs.lemmas.Bool.{and_parts, and_from, and_right, cases_Bool, not_from_false, false_from_ne_true}
use Rattle.std.proofs.lemmas.List.Elements.{filter-append}
use Rattle.dg_base.specs.declared.ids.NodeId.{NodeId}
use Rattle.dg_base.specs.declared.ids.Label.{Label}
use Rattle.dg_base.specs.declared.ids.Endpoint.{Endpoint}
use Rattle.dg_base.specs.declared.ids.ArcRec.{ArcRec}
use Rattle.dg_base.specs.declared.graph.Node.{Node}
use Rattle.dg_base.specs.declared.graph.Origin.{Origin}
use Rattle.dg_base.specs.declared.graph.Origin.TheVariants as origin
use Rattle.dg_base.specs.Same.{same_node, same_label, same_end, same_arc}
use Rattle.dg_base.specs.Order.{is_end_among}
use Rattle.dg_base.specs.Tables.{Tables, AreTables}
use Rattle.dg_base.specs.Graph.{Graph, node_at, explicit_sources}
use Rattle.dg_base.specs.Chain.{above_origin, chain_from, chain_within, chain, holds, heirs}
use Rattle.dg_base.specs.Changes.{with_arc, without_arc, without_arcs_into}
use Rattle.dg_base.specs.Touched.{readers_of_input, touched_readers}
use Rattle.dg_laws.proofs.Members.{Contains-flat_map, list_any_from}
use Rattle.dg_laws.proofs.Among.{same-swap}
use Rattle.dg_laws.proofs.Ids.{nodes_tell, same_node-is, same_node-itself, same_label-is}
use Rattle.dg_laws.proofs.Heirs.{Contains-heirs}
use Rattle.dg_laws.proofs.SoundArcs.{with_arcs}
use Rattle.dg_touch.specs.Reads.{ReadsInput}
use Rattle.dg_touch.specs.Laws.{RulesAgreeOutside}
use Rattle.dg_touch.proofs.Passing.{filter-passing}
use Rattle.dg_touch.proofs.Outside.{not_outside}
use Rattle.dg_touch.proofs.Reading.{rule_of-read, same_along-overs}
use Rattle.dg_touch.proofs.Readers.{readers-has}

-- ---- chains know no arcs

chain_from-both : (o : Option Node) (f h : NodeId → List Node) → ((n : NodeId) → f n ≡ h n) → chain_from o f ≡ chain_from o h
chain_from-both None f h same = refl
chain_from-both (Some x) f h same = ap (λ (z : List Node). x ∷ z) (by_origin x.origin)
  where
    by_origin : (w : Origin) → above_origin w f ≡ above_origin w h
    by_origin (origin.Plain kind) = refl
    by_origin (origin.Over root original) = same original

chain_within-arcs : (k : ℕ) (g : Graph) (as_ : List ArcRec) (n : NodeId) → chain_within k (with_arcs g as_) n ≡ chain_within k g n
chain_within-arcs zero g as_ n = refl
chain_within-arcs (suc k) g as_ n = chain_from-both (node_at g n) (chain_within k (with_arcs g as_)) (chain_within k g) (chain_within-arcs k g as_)

pub chain-arcs : (g : Graph) (as_ : List ArcRec) (n : NodeId) → chain (with_arcs g as_) n ≡ chain g n
chain-arcs g as_ n = chain_within-arcs (length g.nodes) g as_ n

-- ---- other arcs into one input

-- the arcs into the other inputs stay
abbrev pub ArcsStay : Graph → List ArcRec → NodeId → Label → Type 0
ArcsStay g as_ n i = (m : NodeId) (j : Label) → (same_node m n && same_label i j) ≡ false → explicit_sources (with_arcs g as_) m j ≡ explicit_sources g m j

module _ {t : Tables} (laws : AreTables t) (g : Graph) (n : NodeId) (i : Label) where
  -- an endpoint that isn't touched reads none of them
  aside : (e : Endpoint) → is_end_among (touched_readers t g (Some n) i) e ≡ false → (j : Label) → ReadsInput t g e j →
      (x : Node) → Contains (chain g e.node) x → (same_node x.id n && same_label i j) ≡ false
  aside e out j r x c =
      elim (cases_Bool (same_label i j)) [
        | inr other ↦ and_right (same_node x.id n) (same_label i j) other
        | inl same ↦ elim (cases_Bool (holds (chain g e.node) n)) [
          | inr other ↦
              ap (λ b. b && same_label i j) (
              false_from_ne_true (same_node x.id n) (λ is. true≢false (sym (list_any_from (λ z. same_node z.id n) (chain g e.node) x c is) ∙ other)))
          | inl heir ↦ not_outside (touched_readers t g (Some n) i) e out (
              Contains-flat_map (readers_of_input t g i) (heirs g n) e.node e (Contains-heirs g n e.node heir) (readers-has laws r (same_label i) same))
        ]
      ]

  pub rules-arcs : (as_ : List ArcRec) → ArcsStay g as_ n i → RulesAgreeOutside t g (with_arcs g as_) (touched_readers t g (Some n) i)
  rules-arcs as_ stay e out = rule_of-read t g (with_arcs g as_) e (record {
    chains = sym (chain-arcs g as_ e.node);
    sources = λ j r. same_along-overs g (with_arcs g as_) (chain g e.node) j (λ x c. sym (stay x.id j (aside e out j r x c))) (λ root original. refl);
  })

-- ---- an arc more, an arc less, and one in place of the others

into-turned : (m n : NodeId) (i j : Label) → (same_node m n && same_label i j) ≡ false → (same_node n m && same_label i j) ≡ false
into-turned m n i j h = ap (λ b. b && same_label i j) (same-swap nodes_tell n m) ∙ h

with_arc-stays : (g : Graph) (a : ArcRec) → ArcsStay g (g.arcs ++ a ∷ []) a.node a.input
with_arc-stays g a m j other =
    ap (map (λ z. z.src)) (
    filter-append (λ z. same_node z.node m && same_label z.input j) g.arcs (a ∷ [])
    ∙ ap (λ b. filter (λ z. same_node z.node m && same_label z.input j) g.arcs ++ cond b (a ∷ []) []) (into-turned m a.node a.input j other)
    ∙ append-nil (filter (λ z. same_node z.node m && same_label z.input j) g.arcs))

without_arc-stays : (g : Graph) (a : ArcRec) → ArcsStay g (filter (λ b. not (same_arc a b)) g.arcs) a.node a.input
without_arc-stays g a m j other =
    ap (map (λ z. z.src)) (
    filter-passing (λ z. same_node z.node m && same_label z.input j) (λ z. not (same_arc a z)) g.arcs (λ z c h.
    not_from_false (same_arc a z) (false_from_ne_true (same_arc a z) (λ same.
    let ends = and_parts (same_end a.src z.src) (same_node a.node z.node && same_label a.input z.input) same in
    let both = and_parts (same_node a.node z.node) (same_label a.input z.input) ends.1 in
    let node : a.node ≡ z.node = same_node-is a.node z.node both.0 in
    let input : a.input ≡ z.input = same_label-is a.input z.input both.1 in
    let at_a : (same_node z.node m && same_label z.input j) ≡ (same_node a.node m && same_label a.input j) =
    ap (λ (k : NodeId). same_node k m && same_label z.input j) (sym node) ∙ ap (λ (k : Label). same_node a.node m && same_label k j) (sym input) in
    true≢false (sym h ∙ at_a ∙ into-turned m a.node a.input j other)))))

without_arcs_into-stays : (g : Graph) (n : NodeId) (i : Label) → ArcsStay g (filter (λ a. not (same_node a.node n && same_label a.input i)) g.arcs) n i
without_arcs_into-stays g n i m j other =
    ap (map (λ z. z.src)) (
    filter-passing (λ z. same_node z.node m && same_label z.input j) (λ z. not (same_node z.node n && same_label z.input i)) g.arcs (λ z c h.
    not_from_false (same_node z.node n && same_label z.input i) (false_from_ne_true (same_node z.node n && same_label z.input i) (λ same.
    let at = and_parts (same_node z.node n) (same_label z.input i) same in
    let here = and_parts (same_node z.node m) (same_label z.input j) h in
    let node : m ≡ n = sym (same_node-is z.node m here.0) ∙ same_node-is z.node n at.0 in
    let label : i ≡ z.input = sym (same_label-is z.input i at.1) in
    let both : (same_node m n && same_label i j) ≡ true =
    and_from _ _ (ap (same_node m) (sym node) ∙ same_node-itself m) (ap (λ (k : Label). same_label k j) label ∙ here.1) in
    true≢false (sym both ∙ other)))))

module _ {t : Tables} (laws : AreTables t) (g : Graph) where
  -- Connect into an array, or where there was none
  pub rules-with_arc : (a : ArcRec) → RulesAgreeOutside t g (with_arc g a) (touched_readers t g (Some a.node) a.input)
  rules-with_arc a = rules-arcs laws g a.node a.input (g.arcs ++ a ∷ []) (with_arc-stays g a)

  pub rules-without_arc : (a : ArcRec) → RulesAgreeOutside t g (without_arc g a) (touched_readers t g (Some a.node) a.input)
  rules-without_arc a = rules-arcs laws g a.node a.input (without_arc g a).arcs (without_arc-stays g a)

  pub rules-without_arcs_into : (n : NodeId) (i : Label) → RulesAgreeOutside t g (without_arcs_into g n i) (touched_readers t g (Some n) i)
  rules-without_arcs_into n i = rules-arcs laws g n i (without_arcs_into g n i).arcs (without_arcs_into-stays g n i)

  -- Connect into a single input
  pub rules-replaced_arc : (a : ArcRec) → RulesAgreeOutside t g (with_arc (without_arcs_into g a.node a.input) a) (touched_readers t g (Some a.node) a.input)
  rules-replaced_arc a =
      let left = without_arcs_into g a.node a.input in
      rules-arcs laws g a.node a.input (left.arcs ++ a ∷ []) (λ m j other. with_arc-stays left a m j other ∙ without_arcs_into-stays g a.node a.input m j other)
