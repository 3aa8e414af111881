-- An endpoint with a rule is one of the graph's.
use Rattle.std.proofs.Common.{◌≡◌, ◌⊎◌, Bool, true, false, cond, ◌&&◌, ◌||◌, List, [], ◌∷◌, Option, Some, None, map, filter, is_some, Contains, refl, sym, ap, ◌∙◌, subst, inl, inr, true≢false, nat_lt}
use Rattle.std.proofs.lemmas.List.Elements.{Contains-append_left, Contains-append_right}
use Rattle.dg_base.specs.declared.ids.NodeId.{NodeId}
use Rattle.dg_base.specs.declared.ids.Label.{Label}
use Rattle.dg_base.specs.declared.ids.Kind.{Kind}
use Rattle.dg_base.specs.declared.ids.Endpoint.{Endpoint}
use Rattle.dg_base.specs.declared.datum.Datum.{Datum}
use Rattle.dg_base.specs.declared.datum.Datum.TheVariants as datum
use Rattle.dg_base.specs.declared.datum.FieldOf.{FieldOf}
use Rattle.dg_base.specs.declared.graph.Node.{Node}
use Rattle.dg_base.specs.declared.rule.Rule.TheVariants as rule
use Rattle.dg_base.specs.declared.schema.Role.{Role}
use Rattle.dg_base.specs.declared.schema.Role.TheVariants as role
use Rattle.dg_base.specs.Same.{same_label}
use Rattle.dg_base.specs.Role.{is_given}
use Rattle.dg_base.specs.Tables.{Tables, AreTables}
use Rattle.dg_base.specs.Graph.{Graph, node_at, value_in, put_value}
use Rattle.dg_base.specs.Chain.{chain, kind_along, kind_of}
use Rattle.dg_base.specs.Rule.{is_open_label, overlaid, open_fields, has_open, property_rule, rule_by, rule_along, rule_of, given_labels, endpoints_at, endpoints}
use Rattle.dg_base.specs.Sound.{IsLinked}
use Rattle.dg_laws.proofs.Members.{Contains-head, Contains-tail, Contains-cases, Contains-none, Contains-filter, Contains-map, Contains-flat_map}
use Rattle.dg_laws.proofs.Ids.{same_label-is}
use Rattle.dg_laws.proofs.Nodes.{node_at-cases, node_at-in, node_at-id}
use Rattle.dg_laws.proofs.Chains.{kind-absent}

-- each endpoint is among these, or has no rule
abbrev pub Covers : Tables → Graph → List Endpoint → Type 0
Covers t g es = (e : Endpoint) → Contains es e ⊎ (rule_of t g e ≡ rule.Absent)

abbrev IsNothing : Role → Type 0
IsNothing role.Nothing = Unit {0}
IsNothing _ = ⊥

abbrev end : NodeId → Label → Endpoint
end n l = record { node = n; label = l }

-- the labels among fields
abbrev labels_of : List FieldOf → List Label
labels_of fs = map (λ f. f.label) fs

Contains-put_value : (fs : List FieldOf) (l : Label) (v : Datum) → Contains (labels_of (put_value fs l v)) l
Contains-put_value [] l v = Contains-head l []
Contains-put_value (f ∷ fs) l v =
    let rest = Contains-put_value fs l v in
    elim (same_label f.label l) as (λ b. Contains (labels_of (cond b (record { label = l; value = v } ∷ fs)
    (cond (nat_lt l.0 f.label.0) (record { label = l; value = v } ∷ f ∷ fs) (f ∷ put_value fs l v)))) l) [
      | true ↦ Contains-head l (labels_of fs)
      | false ↦ elim (nat_lt l.0 f.label.0) as (λ b. Contains (labels_of (cond b (record { label = l; value = v } ∷ f ∷ fs) (f ∷ put_value fs l v))) l) [
        | true ↦ Contains-head l (labels_of (f ∷ fs))
        | false ↦ Contains-tail f.label (labels_of (put_value fs l v)) l rest
      ]
    ]

Contains-put_other : (fs : List FieldOf) (m : Label) (v : Datum) (l : Label) → Contains (labels_of fs) l → Contains (labels_of (put_value fs m v)) l
Contains-put_other [] m v l c = Contains-none l c
Contains-put_other (f ∷ fs) m v l c = by_test (same_label f.label m) refl (nat_lt m.0 f.label.0) (λ d. Contains-put_other fs m v l d)
  where
    by_test : (a : Bool) → same_label f.label m ≡ a → (b : Bool) → (Contains (labels_of fs) l → Contains (labels_of (put_value fs m v)) l) →
        Contains (labels_of (cond a (record { label = m; value = v } ∷ fs) (cond b (record { label = m; value = v } ∷ f ∷ fs) (f ∷ put_value fs m v)))) l
    by_test true same b later = subst (λ (z : Label). Contains (z ∷ labels_of fs) l) (same_label-is f.label m same) c
    by_test false same true later = Contains-tail m (labels_of (f ∷ fs)) l c
    by_test false same false later =
        elim (Contains-cases f.label (labels_of fs) l c) [
          | inl is ↦ subst (λ (z : Label). Contains (f.label ∷ labels_of (put_value fs m v)) z) is (Contains-head f.label (labels_of (put_value fs m v)))
          | inr rest ↦ Contains-tail f.label (labels_of (put_value fs m v)) l (later rest)
        ]

Contains-overlaid_above : (fs others : List FieldOf) (l : Label) → Contains (labels_of others) l → Contains (labels_of (overlaid fs others)) l
Contains-overlaid_above [] others l c = c
Contains-overlaid_above (f ∷ fs) others l c = Contains-put_other (overlaid fs others) f.label f.value l (Contains-overlaid_above fs others l c)

Contains-overlaid : (fs others : List FieldOf) (l : Label) → Contains (labels_of fs) l → Contains (labels_of (overlaid fs others)) l
Contains-overlaid [] others l c = Contains-none l c
Contains-overlaid (f ∷ fs) others l c =
    elim (Contains-cases f.label (labels_of fs) l c) [
      | inl is ↦
          subst (λ (z : Label). Contains (labels_of (put_value (overlaid fs others) f.label f.value)) z) is (
          Contains-put_value (overlaid fs others) f.label f.value)
      | inr rest ↦ Contains-put_other (overlaid fs others) f.label f.value l (Contains-overlaid fs others l rest)
    ]

-- a value at an open label is an open field
Contains-open_own : (fs : List FieldOf) (l : Label) → is_open_label l ≡ true → is_some (value_in fs l) ≡ true →
    Contains (labels_of (filter (λ f. is_open_label f.label) fs)) l
Contains-open_own [] l open_ some = absurd (true≢false (sym some))
Contains-open_own (f ∷ fs) l open_ some = by_label (same_label f.label l) refl some (Contains-open_own fs l open_)
  where
    by_label : (b : Bool) → same_label f.label l ≡ b → is_some (cond b (Some f.value) (value_in fs l)) ≡ true →
        (is_some (value_in fs l) ≡ true → Contains (labels_of (filter (λ z. is_open_label z.label) fs)) l) →
        Contains (labels_of (filter (λ z. is_open_label z.label) (f ∷ fs))) l
    by_label true same some later =
        let is : f.label ≡ l = same_label-is f.label l same in
        let here : is_open_label f.label ≡ true = ap is_open_label is ∙ open_ in
        rw here (subst (λ (z : Label). Contains (f.label ∷ labels_of (filter (λ z. is_open_label z.label) fs)) z) is (Contains-head f.label (labels_of (filter (λ z. is_open_label z.label) fs))))
    by_label false same some later =
        let rest = later some in
        elim (is_open_label f.label) as (λ b. Contains (labels_of (cond b (f ∷ filter (λ z. is_open_label z.label) fs) (filter (λ z. is_open_label z.label) fs))) l) [
          | true ↦ Contains-tail f.label (labels_of (filter (λ z. is_open_label z.label) fs)) l rest
          | false ↦ rest
        ]

Contains-open_fields : (xs : List Node) (l : Label) → is_open_label l ≡ true → has_open xs l ≡ true → Contains (labels_of (open_fields xs)) l
Contains-open_fields [] l open_ some = absurd (true≢false (sym some))
Contains-open_fields (x ∷ xs) l open_ some = by_test (is_some (value_in x.own l)) refl some (Contains-open_fields xs l open_)
  where
    by_test : (b : Bool) → is_some (value_in x.own l) ≡ b → (b || has_open xs l) ≡ true → (has_open xs l ≡ true → Contains (labels_of (open_fields xs)) l) →
        Contains (labels_of (open_fields (x ∷ xs))) l
    by_test true here some later =
        Contains-overlaid (filter (λ f. is_open_label f.label) x.own) (open_fields xs) l (Contains-open_own x.own l open_ here)
    by_test false here some later =
        Contains-overlaid_above (filter (λ f. is_open_label f.label) x.own) (open_fields xs) l (later some)

given_label : {t : Tables} → AreTables t → (k : Kind) (xs : List Node) (l : Label) → (t.role k l ≡ role.Nothing → ⊥) → is_given (t.role k l) ≡ true →
    Contains (given_labels t xs (Some k)) l
given_label {t} laws k xs l some given =
    Contains-append_left (filter (λ z. is_given (t.role k z)) (t.labels k)) (cond (t.is_open k) (labels_of (open_fields xs)) []) l (
    Contains-filter (λ z. is_given (t.role k z)) (t.labels k) l (laws.others k l some) given)

-- a label with a rule is one of the labels that a chain gives
label_or_absent : {t : Tables} → AreTables t → (g : Graph) (k : Kind) (xs : List Node) (e : Endpoint) (r : Role) → t.role k e.label ≡ r →
    Contains (given_labels t xs (Some k)) e.label ⊎ (rule_by t g k xs e r ≡ rule.Absent)
label_or_absent {t} laws g k xs e role.Nothing is = by_open (t.is_open k) (is_open_label e.label) (has_open xs e.label) refl refl refl
  where
    by_open : (a b c : Bool) → t.is_open k ≡ a → is_open_label e.label ≡ b → has_open xs e.label ≡ c →
        Contains (given_labels t xs (Some k)) e.label ⊎ (cond (a && (b && c)) (property_rule xs e.label datum.Nil) rule.Absent ≡ rule.Absent)
    by_open true true true a b c =
        let fields : Contains (cond (t.is_open k) (labels_of (open_fields xs)) []) e.label = rw a (Contains-open_fields xs e.label b c) in
        inl (Contains-append_right (filter (λ l. is_given (t.role k l)) (t.labels k)) (cond (t.is_open k) (labels_of (open_fields xs)) []) e.label fields)
    by_open true true false a b c = inr refl
    by_open true false c a b d = inr refl
    by_open false b c a d e = inr refl
label_or_absent {t} laws g k xs e (role.Property ty) is =
    inl (given_label laws k xs e.label (λ none. subst IsNothing (sym none ∙ is) tt) (ap is_given is))
label_or_absent {t} laws g k xs e (role.Output ty cached) is =
    inl (given_label laws k xs e.label (λ none. subst IsNothing (sym none ∙ is) tt) (ap is_given is))
label_or_absent {t} laws g k xs e (role.Input ty array cascade substitute) is = inr refl

-- an endpoint with a rule is one of the graph's
pub covers : {t : Tables} {g : Graph} → IsLinked g → AreTables t → Covers t g (endpoints t g)
covers {t} {g} l laws e = by_node (node_at-cases g e.node)
  where
    by_kind : (x : Node) → node_at g e.node ≡ Some x → (o : Option Kind) → kind_of g e.node ≡ o → Contains (endpoints t g) e ⊎ (rule_of t g e ≡ rule.Absent)
    by_kind x there None is = inr (ap (rule_along t g (chain g e.node) e) is)
    by_kind x there (Some k) is =
        elim (label_or_absent laws g k (chain g e.node) e (t.role k e.label) refl) [
          | inl label ↦
              let labels : Contains (given_labels t (chain g e.node) (kind_along (chain g e.node))) e.label =
              subst (λ (o : Option Kind). Contains (given_labels t (chain g e.node) o) e.label) (sym is) label in
              let ends : Contains (endpoints_at t g e.node) e = Contains-map (end e.node) (given_labels t (chain g e.node) (kind_along (chain g e.node))) e.label labels in
              inl (Contains-flat_map (λ y. endpoints_at t g y.id) g.nodes x e (node_at-in g e.node x there)
              (subst (λ (n : NodeId). Contains (endpoints_at t g n) e) (sym (node_at-id g e.node x there)) ends))
          | inr absent ↦ inr (ap (rule_along t g (chain g e.node) e) is ∙ absent)
        ]

    by_node : ((x : Node) × (node_at g e.node ≡ Some x)) ⊎ (node_at g e.node ≡ None) → Contains (endpoints t g) e ⊎ (rule_of t g e ≡ rule.Absent)
    by_node (inl there) = by_kind there.0 there.1 (kind_of g e.node) refl
    by_node (inr none) = inr (ap (rule_along t g (chain g e.node) e) (kind-absent g e.node none))
