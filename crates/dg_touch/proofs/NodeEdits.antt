-- Nodes of a graph are changed, but for their ids and origins: kinds and sources stay, and what is read along
-- a chain stays where what it reads of each node does. Where one node is changed, no rule changes but at its
-- heirs.
use Rattle.std.proofs.Common.{◌≡◌, ℕ, zero, suc, false, cond, ◌&&◌, ◌||◌, List, [], ◌∷◌, Option, Some, None, map, filter, filter_map, length, is_some, refl, sym, ap, ◌∙◌}
use Rattle.std.proofs.lemmas.Bool.{or_parts}
use Rattle.std.proofs.lemmas.List.{length-map}
use Rattle.std.specs.Option.{option_map}
use Rattle.dg_base.specs.declared.ids.NodeId.{NodeId}
use Rattle.dg_base.specs.declared.ids.Label.{Label}
use Rattle.dg_base.specs.declared.ids.Kind.{Kind}
use Rattle.dg_base.specs.declared.ids.Endpoint.{Endpoint}
use Rattle.dg_base.specs.declared.datum.Datum.{Datum}
use Rattle.dg_base.specs.declared.datum.Datum.TheVariants as datum
use Rattle.dg_base.specs.declared.datum.FieldOf.{FieldOf}
use Rattle.dg_base.specs.declared.graph.Node.{Node}
use Rattle.dg_base.specs.declared.graph.Origin.{Origin}
use Rattle.dg_base.specs.declared.graph.Origin.TheVariants as origin
use Rattle.dg_base.specs.declared.rule.Rule.{Rule}
use Rattle.dg_base.specs.declared.rule.Rule.TheVariants as rule
use Rattle.dg_base.specs.Same.{same_node}
use Rattle.dg_base.specs.Tables.{Tables}
use Rattle.dg_base.specs.Graph.{Graph, node_at, value_in, explicit_sources}
use Rattle.dg_base.specs.Chain.{above_origin, chain_from, chain_within, chain, kind_by, kind_along, kind_of, holds}
use Rattle.dg_base.specs.Sources.{moved_to, replaced, inherited_along, explicit_or, sources_along, sources}
use Rattle.dg_base.specs.Rule.{is_open_label, overlaid, open_fields, prop_of, open_values, is_defective, without_own, own_or, property_rule, has_open, open_rule, rule_of}
use Rattle.dg_laws.proofs.Members.{map_same}
use Rattle.dg_laws.proofs.SoundValues.{KeepsNode, edited, node_at-edited}
use Rattle.dg_laws.proofs.SoundKept.{edited-override_in}
use Rattle.dg_touch.proofs.Reading.{rule_of-read, same_along-overs}

module _ {f : Node → Node} (k : KeepsNode f) where
  chain_from-edited : (o : Option Node) (c d : NodeId → List Node) → ((m : NodeId) → c m ≡ map f (d m)) → chain_from (option_map f o) c ≡ map f (chain_from o d)
  chain_from-edited None c d same = refl
  chain_from-edited (Some x) c d same =
      ap (λ (z : List Node). f x ∷ z) (ap (λ (w : Origin). above_origin w c) (k.same_origin x) ∙ by_origin x.origin)
    where
      by_origin : (w : Origin) → above_origin w c ≡ map f (above_origin w d)
      by_origin (origin.Plain kind) = refl
      by_origin (origin.Over root original) = same original

  chain_within-edited : (j : ℕ) (g : Graph) (m : NodeId) → chain_within j (edited f g) m ≡ map f (chain_within j g m)
  chain_within-edited zero g m = refl
  chain_within-edited (suc j) g m =
      ap (λ (o : Option Node). chain_from o (chain_within j (edited f g))) (node_at-edited k g m)
      ∙ chain_from-edited (node_at g m) (chain_within j (edited f g)) (chain_within j g) (chain_within-edited j g)

  pub chain-edited : (g : Graph) (m : NodeId) → chain (edited f g) m ≡ map f (chain g m)
  chain-edited g m =
      ap (λ (j : ℕ). chain_within j (edited f g) m) (length-map g.nodes f) ∙ chain_within-edited (length g.nodes) g m

  kind_along-edited : (xs : List Node) → kind_along (map f xs) ≡ kind_along xs
  kind_along-edited [] = refl
  kind_along-edited (x ∷ xs) =
      ap (λ (w : Origin). kind_by w (kind_along (map f xs))) (k.same_origin x) ∙ ap (kind_by x.origin) (kind_along-edited xs)

  pub edited-kind : (g : Graph) (m : NodeId) → kind_of (edited f g) m ≡ kind_of g m
  edited-kind g m = ap kind_along (chain-edited g m) ∙ kind_along-edited (chain g m)

  sources_along-edited : (g : Graph) (xs : List Node) (i : Label) → sources_along (edited f g) (map f xs) i ≡ sources_along g xs i
  sources_along-edited g [] i = refl
  sources_along-edited g (x ∷ xs) i =
      ap (λ (m : NodeId). explicit_or (explicit_sources g m i) (inherited_along (edited f g) (f x).origin (sources_along (edited f g) (map f xs) i))) (k.same_id x)
      ∙ ap (explicit_or (explicit_sources g x.id i)) (
      ap (λ (w : Origin). inherited_along (edited f g) w (sources_along (edited f g) (map f xs) i)) (k.same_origin x)
      ∙ by_origin x.origin (sources_along (edited f g) (map f xs) i) (sources_along g xs i) (sources_along-edited g xs i))
    where
      by_origin : (w : Origin) (as_ bs : List Endpoint) → as_ ≡ bs → inherited_along (edited f g) w as_ ≡ inherited_along g w bs
      by_origin (origin.Plain kind) as_ bs above = refl
      by_origin (origin.Over root original) as_ bs above =
          map_same (replaced (edited f g) root) (replaced g root) as_ (λ s c. ap (moved_to s) (edited-override_in k g root s.node))
          ∙ ap (map (replaced g root)) above

  pub edited-sources : (g : Graph) (m : NodeId) (i : Label) → sources (edited f g) m i ≡ sources g m i
  edited-sources g m i = ap (λ (xs : List Node). sources_along (edited f g) xs i) (chain-edited g m) ∙ sources_along-edited g (chain g m) i

  -- ---- chains whose nodes have the same value at a label

  abbrev SameAt : Label → Type 0
  SameAt l = (x : Node) → value_in (f x).own l ≡ value_in x.own l

  pub property_rule-edited : (xs : List Node) (l : Label) (d : Datum) → SameAt l → property_rule (map f xs) l d ≡ property_rule xs l d
  property_rule-edited [] l d same = refl
  property_rule-edited (x ∷ xs) l d same =
      ap (λ (v : Option Datum). own_or v (without_own l d (f x).origin)) (same x)
      ∙ ap (λ (w : Origin). own_or (value_in x.own l) (without_own l d w)) (k.same_origin x)

  has_open-edited : (xs : List Node) (l : Label) → SameAt l → has_open (map f xs) l ≡ has_open xs l
  has_open-edited [] l same = refl
  has_open-edited (x ∷ xs) l same =
      ap (λ (v : Option Datum). is_some v || has_open (map f xs) l) (same x) ∙ ap (λ b. is_some (value_in x.own l) || b) (has_open-edited xs l same)

  pub open_rule-edited : (t : Tables) (kind : Kind) (xs : List Node) (l : Label) → SameAt l → open_rule t kind (map f xs) l ≡ open_rule t kind xs l
  open_rule-edited t kind xs l same =
      ap (λ b. cond (t.is_open kind && (is_open_label l && b)) (property_rule (map f xs) l datum.Nil) rule.Absent) (has_open-edited xs l same)
      ∙ ap (λ (r : Rule). cond (t.is_open kind && (is_open_label l && has_open xs l)) r rule.Absent) (property_rule-edited xs l datum.Nil same)

  -- ---- chains whose nodes have the same open values, or the same mark

  abbrev SameOpen : Type 0
  SameOpen = (x : Node) → filter (λ v. is_open_label v.label) (f x).own ≡ filter (λ v. is_open_label v.label) x.own

  open_fields-edited : (xs : List Node) → SameOpen → open_fields (map f xs) ≡ open_fields xs
  open_fields-edited [] same = refl
  open_fields-edited (x ∷ xs) same =
      ap (λ (vs : List FieldOf). overlaid vs (open_fields (map f xs))) (same x)
      ∙ ap (overlaid (filter (λ v. is_open_label v.label) x.own)) (open_fields-edited xs same)

  pub open_values-edited : (xs : List Node) → SameOpen → open_values (map f xs) ≡ open_values xs
  open_values-edited xs same = ap (filter_map (λ v. prop_of v.value)) (open_fields-edited xs same)

  pub is_defective-edited : (xs : List Node) → ((x : Node) → (f x).defective ≡ x.defective) → is_defective (map f xs) ≡ is_defective xs
  is_defective-edited [] same = refl
  is_defective-edited (x ∷ xs) same = ap (λ b. b || is_defective (map f xs)) (same x) ∙ ap (λ b. x.defective || b) (is_defective-edited xs same)

-- ---- one node is changed

pub record EditsOne (f : Node → Node) (n : NodeId) : Type 0 where
  pub keeps : KeepsNode f
  pub elsewhere : (x : Node) → same_node x.id n ≡ false → f x ≡ x

module _ {f : Node → Node} {n : NodeId} (one : EditsOne f n) where
  edited_elsewhere : (xs : List Node) → holds xs n ≡ false → map f xs ≡ xs
  edited_elsewhere [] h = refl
  edited_elsewhere (x ∷ xs) h =
      let parts = or_parts (same_node x.id n) (holds xs n) h in
      ap (λ (z : Node). z ∷ map f xs) (one.elsewhere x parts.0) ∙ ap (λ (z : List Node). x ∷ z) (edited_elsewhere xs parts.1)

  -- where the node isn't in the chain, the rule stays
  pub rule-elsewhere : (t : Tables) (g : Graph) (e : Endpoint) → holds (chain g e.node) n ≡ false → rule_of t g e ≡ rule_of t (edited f g) e
  rule-elsewhere t g e other = rule_of-read t g (edited f g) e (record {
    chains = sym (chain-edited one.keeps g e.node ∙ edited_elsewhere (chain g e.node) other);
    sources = λ i r. same_along-overs g (edited f g) (chain g e.node) i (λ x c. refl) (λ root original. sym (edited-override_in one.keeps g root original));
  })
