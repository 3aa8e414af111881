-- An own value that is set or cleared, or a mark, changes no rule but those that read it, at the heirs of
-- its node.
use Rattle.std.proofs.Common.{◌≡◌, Bool, true, false, cond, not, List, [], ◌∷◌, Option, Some, None, filter, Contains, nat_lt, inl, inr, refl, sym, ap, ◌∙◌, subst, true≢false}
use Rattle.std.proofs.lemmas.Bool.{cases_Bool, not_from_false, false_from_ne_true}
use Rattle.dg_base.specs.declared.ids.NodeId.{NodeId}
use Rattle.dg_base.specs.declared.ids.Label.{Label}
use Rattle.dg_base.specs.declared.ids.Kind.{Kind}
use Rattle.dg_base.specs.declared.ids.Endpoint.{Endpoint}
use Rattle.dg_base.specs.declared.datum.Datum.{Datum}
use Rattle.dg_base.specs.declared.datum.FieldOf.{FieldOf}
use Rattle.dg_base.specs.declared.graph.Node.{Node}
use Rattle.dg_base.specs.declared.schema.Role.{Role}
use Rattle.dg_base.specs.declared.schema.Role.TheVariants as role
use Rattle.dg_base.specs.declared.schema.ArgSpec.{ArgSpec}
use Rattle.dg_base.specs.declared.schema.ArgSpec.TheVariants as arg
use Rattle.dg_base.specs.Same.{same_node, same_label}
use Rattle.dg_base.specs.Order.{is_end_among}
use Rattle.dg_base.specs.Role.{is_output}
use Rattle.dg_base.specs.Tables.{Tables, AreTables}
use Rattle.dg_base.specs.Graph.{Graph, value_in, put_value}
use Rattle.dg_base.specs.Chain.{chain, kind_of, holds, heirs}
use Rattle.dg_base.specs.Rule.{is_open_label, open_values, is_defective, property_rule, open_rule, ends_of}
use Rattle.dg_base.specs.Changes.{valued, with_value, cleared, without_value, marked, with_mark}
use Rattle.dg_base.specs.Touched.{outputs, is_open_arg, outputs_reading, touched_value, touched_values, touched_outputs}
use Rattle.dg_laws.proofs.Members.{Contains-head, Contains-tail, Contains-map, Contains-flat_map}
use Rattle.dg_laws.proofs.Among.{same-swap}
use Rattle.dg_laws.proofs.Ids.{labels_tell, same_label-is}
use Rattle.dg_laws.proofs.Heirs.{Contains-heirs}
use Rattle.dg_laws.proofs.SoundValues.{edited, valued-keeps, cleared-keeps, marked-keeps}
use Rattle.dg_touch.specs.Laws.{RulesAgreeOutside}
use Rattle.dg_touch.proofs.Passing.{filter-passing}
use Rattle.dg_touch.proofs.Outside.{not_outside}
use Rattle.dg_touch.proofs.Reading.{SameArg, SameByRole, rule_of-same}
use Rattle.dg_touch.proofs.Readers.{end, outputs-has, outputs_reading-has}
use Rattle.dg_touch.proofs.NodeEdits.{EditsOne, chain-edited, edited-kind, edited-sources, rule-elsewhere, property_rule-edited, open_rule-edited, open_values-edited, is_defective-edited}

-- ---- an own value

abbrev opens_of : List FieldOf → List FieldOf
opens_of fs = filter (λ v. is_open_label v.label) fs

-- an edit of a node's own value at a label
pub record EditsValue (f : Node → Node) (n : NodeId) (l : Label) : Type 0 where
  pub one : EditsOne f n
  pub others : (m : Label) → same_label m l ≡ false → (x : Node) → value_in (f x).own m ≡ value_in x.own m
  pub opens : is_open_label l ≡ false → (x : Node) → filter (λ v. is_open_label v.label) (f x).own ≡ filter (λ v. is_open_label v.label) x.own
  pub mark : (x : Node) → (f x).defective ≡ x.defective

module _ {f : Node → Node} {n : NodeId} {l : Label} (v : EditsValue f n l) {t : Tables} (laws : AreTables t) (g : Graph) where
  abbrev IsUntouched : Endpoint → Type 0
  IsUntouched e = is_end_among (touched_values t g (Some n) l) e ≡ false

  at_heir : (e : Endpoint) → holds (chain g e.node) n ≡ true → Contains (touched_value t g l e.node) e → Contains (touched_values t g (Some n) l) e
  at_heir e heir c = Contains-flat_map (touched_value t g l) (heirs g n) e.node e (Contains-heirs g n e.node heir) c

  other_label : (e : Endpoint) → holds (chain g e.node) n ≡ true → IsUntouched e → same_label e.label l ≡ false
  other_label e heir out = false_from_ne_true (same_label e.label l) (λ same.
      not_outside (touched_values t g (Some n) l) e out (at_heir e heir (
      subst (λ (z : Label). Contains (touched_value t g l e.node) (end e.node z)) (sym (same_label-is e.label l same)) (
      Contains-head (end e.node l) (cond (is_open_label l) (outputs_reading t g is_open_arg e.node) [])))))

  value-arg : (e : Endpoint) → holds (chain g e.node) n ≡ true → IsUntouched e → (k : Kind) → kind_of g e.node ≡ Some k →
      is_output (t.role k e.label) ≡ true → (a : ArgSpec) → Contains (t.args k e.label) a → SameArg g (edited f g) e.node a
  value-arg e heir out k is output (arg.Own m) c = tt
  value-arg e heir out k is output (arg.Input i) c = sym (edited-sources v.one.keeps g e.node i)
  value-arg e heir out k is output arg.Open c =
      elim (cases_Bool (is_open_label l)) [
        | inl open_ ↦
            not_outside (touched_values t g (Some n) l) e out (at_heir e heir (
            Contains-tail (end e.node l) (cond (is_open_label l) (outputs_reading t g is_open_arg e.node) []) e (
            rw open_ (outputs_reading-has laws g is_open_arg e.node k e.label arg.Open is output c refl))))
        | inr low ↦ sym (ap open_values (chain-edited v.one.keeps g e.node) ∙ open_values-edited v.one.keeps (chain g e.node) (v.opens low))
      ]

  value-role : (e : Endpoint) → holds (chain g e.node) n ≡ true → IsUntouched e → (k : Kind) → kind_of g e.node ≡ Some k →
      (r : Role) → t.role k e.label ≡ r → SameByRole t g (edited f g) k e r
  value-role e heir out k is role.Nothing at =
      sym (
      ap (λ (xs : List Node). open_rule t k xs e.label) (chain-edited v.one.keeps g e.node)
      ∙ open_rule-edited v.one.keeps t k (chain g e.node) e.label (v.others e.label (other_label e heir out)))
  value-role e heir out k is (role.Property ty) at = λ d.
      sym (
      ap (λ (xs : List Node). property_rule xs e.label d) (chain-edited v.one.keeps g e.node)
      ∙ property_rule-edited v.one.keeps (chain g e.node) e.label d (v.others e.label (other_label e heir out)))
  value-role e heir out k is (role.Output ty cached) at = (
    sym (ap is_defective (chain-edited v.one.keeps g e.node) ∙ is_defective-edited v.one.keeps (chain g e.node) v.mark),
    value-arg e heir out k is (ap is_output at),
  )
  value-role e heir out k is (role.Input ty array cascade substitute) at = tt

  pub rules-value : RulesAgreeOutside t g (edited f g) (touched_values t g (Some n) l)
  rules-value e out =
      elim (cases_Bool (holds (chain g e.node) n)) [
        | inr other ↦ rule-elsewhere v.one t g e other
        | inl heir ↦
            rule_of-same t g (edited f g) e (sym (edited-kind v.one.keeps g e.node)) (λ k is. value-role e heir out k is (t.role k e.label) refl)
      ]

-- ---- a mark

pub record EditsMark (f : Node → Node) (n : NodeId) : Type 0 where
  pub one : EditsOne f n
  pub own : (x : Node) → (f x).own ≡ x.own

module _ {f : Node → Node} {n : NodeId} (v : EditsMark f n) {t : Tables} (laws : AreTables t) (g : Graph) where
  same_value : (m : Label) (x : Node) → value_in (f x).own m ≡ value_in x.own m
  same_value m x = ap (λ (fs : List FieldOf). value_in fs m) (v.own x)

  mark-role : (e : Endpoint) → holds (chain g e.node) n ≡ true → is_end_among (touched_outputs t g (Some n)) e ≡ false →
      (k : Kind) → kind_of g e.node ≡ Some k → (r : Role) → t.role k e.label ≡ r → SameByRole t g (edited f g) k e r
  mark-role e heir out k is role.Nothing at =
      sym (
      ap (λ (xs : List Node). open_rule t k xs e.label) (chain-edited v.one.keeps g e.node)
      ∙ open_rule-edited v.one.keeps t k (chain g e.node) e.label (same_value e.label))
  mark-role e heir out k is (role.Property ty) at = λ d.
      sym (
      ap (λ (xs : List Node). property_rule xs e.label d) (chain-edited v.one.keeps g e.node)
      ∙ property_rule-edited v.one.keeps (chain g e.node) e.label d (same_value e.label))
  mark-role e heir out k is (role.Output ty cached) at =
      not_outside (touched_outputs t g (Some n)) e out (
      Contains-flat_map (λ h. ends_of h (outputs t (kind_of g h))) (heirs g n) e.node e (Contains-heirs g n e.node heir) (
      Contains-map (end e.node) (outputs t (kind_of g e.node)) e.label (
      subst (λ (o : Option Kind). Contains (outputs t o) e.label) (sym is) (outputs-has laws k e.label (ap is_output at)))))
  mark-role e heir out k is (role.Input ty array cascade substitute) at = tt

  pub rules-mark : RulesAgreeOutside t g (edited f g) (touched_outputs t g (Some n))
  rules-mark e out =
      elim (cases_Bool (holds (chain g e.node) n)) [
        | inr other ↦ rule-elsewhere v.one t g e other
        | inl heir ↦
            rule_of-same t g (edited f g) e (sym (edited-kind v.one.keeps g e.node)) (λ k is. mark-role e heir out k is (t.role k e.label) refl)
      ]

-- ---- Set, Clear and Mark

-- a field at another label is passed by
passed_by : (f : FieldOf) (l m : Label) → same_label f.label l ≡ true → same_label m l ≡ false → same_label f.label m ≡ false
passed_by f l m is other = ap (λ (z : Label). same_label z m) (same_label-is f.label l is) ∙ same-swap labels_tell l m ∙ other

put_value-other : (fs : List FieldOf) (l : Label) (v : Datum) (m : Label) → same_label m l ≡ false → value_in (put_value fs l v) m ≡ value_in fs m
put_value-other [] l v m other = ap (λ b. cond b (Some v) None) (same-swap labels_tell l m ∙ other)
put_value-other (f ∷ fs) l v m other =
    by_tests (same_label f.label l) (nat_lt l.0 f.label.0) refl (same-swap labels_tell l m ∙ other) (put_value-other fs l v m other)
  where
    by_tests : (a b : Bool) → same_label f.label l ≡ a → same_label l m ≡ false → value_in (put_value fs l v) m ≡ value_in fs m →
        value_in (cond a (record { label = l; value = v } ∷ fs) (cond b (record { label = l; value = v } ∷ f ∷ fs) (f ∷ put_value fs l v))) m
        ≡ value_in (f ∷ fs) m
    by_tests true b is turned rest =
        ap (λ c. cond c (Some v) (value_in fs m)) turned ∙ sym (ap (λ c. cond c (Some f.value) (value_in fs m)) (passed_by f l m is other))
    by_tests false true is turned rest = ap (λ c. cond c (Some v) (value_in (f ∷ fs) m)) turned
    by_tests false false is turned rest = ap (λ (o : Option Datum). cond (same_label f.label m) (Some f.value) o) rest

put_value-low : (fs : List FieldOf) (l : Label) (v : Datum) → is_open_label l ≡ false → opens_of (put_value fs l v) ≡ opens_of fs
put_value-low [] l v low = ap (λ b. cond b (record { label = l; value = v } ∷ []) []) low
put_value-low (f ∷ fs) l v low = by_tests (same_label f.label l) (nat_lt l.0 f.label.0) refl (put_value-low fs l v low)
  where
    by_tests : (a b : Bool) → same_label f.label l ≡ a → opens_of (put_value fs l v) ≡ opens_of fs →
        opens_of (cond a (record { label = l; value = v } ∷ fs) (cond b (record { label = l; value = v } ∷ f ∷ fs) (f ∷ put_value fs l v)))
        ≡ opens_of (f ∷ fs)
    by_tests true b is rest =
        ap (λ c. cond c (record { label = l; value = v } ∷ opens_of fs) (opens_of fs)) low
        ∙ sym (ap (λ c. cond c (f ∷ opens_of fs) (opens_of fs)) (ap is_open_label (same_label-is f.label l is) ∙ low))
    by_tests false true is rest = ap (λ c. cond c (record { label = l; value = v } ∷ opens_of (f ∷ fs)) (opens_of (f ∷ fs))) low
    by_tests false false is rest = ap (λ (z : List FieldOf). cond (is_open_label f.label) (f ∷ z) z) rest

abbrev without : Label → List FieldOf → List FieldOf
without l fs = filter (λ f. not (same_label f.label l)) fs

without-other : (fs : List FieldOf) (l m : Label) → same_label m l ≡ false → value_in (without l fs) m ≡ value_in fs m
without-other [] l m other = refl
without-other (f ∷ fs) l m other = by_test (same_label f.label l) refl (without-other fs l m other)
  where
    by_test : (a : Bool) → same_label f.label l ≡ a → value_in (without l fs) m ≡ value_in fs m →
        value_in (cond (not a) (f ∷ without l fs) (without l fs)) m ≡ value_in (f ∷ fs) m
    by_test true is rest = rest ∙ sym (ap (λ c. cond c (Some f.value) (value_in fs m)) (passed_by f l m is other))
    by_test false is rest = ap (λ (o : Option Datum). cond (same_label f.label m) (Some f.value) o) rest

without-low : (fs : List FieldOf) (l : Label) → is_open_label l ≡ false → opens_of (without l fs) ≡ opens_of fs
without-low fs l low = filter-passing (λ v. is_open_label v.label) (λ f. not (same_label f.label l)) fs (λ f c open_.
    not_from_false (same_label f.label l) (false_from_ne_true (same_label f.label l) (λ same.
    true≢false (sym open_ ∙ ap is_open_label (same_label-is f.label l same) ∙ low))))

abbrev put : Label → Datum → Node → Node
put l v x = record x { own = put_value x.own l v }

valued-edits : (n : NodeId) (l : Label) (v : Datum) → EditsValue (valued n l v) n l
valued-edits n l v = record {
  one = record { keeps = valued-keeps n l v; elsewhere = λ x other. ap (λ b. cond b (put l v x) x) other };
  others = λ m other x. elim (same_node x.id n) as (λ b. value_in (cond b (put l v x) x).own m ≡ value_in x.own m) [
    | true ↦ put_value-other x.own l v m other
    | false ↦ refl
  ];
  opens = λ low x. elim (same_node x.id n) as (λ b. opens_of (cond b (put l v x) x).own ≡ opens_of x.own) [
    | true ↦ put_value-low x.own l v low
    | false ↦ refl
  ];
  mark = λ x. elim (same_node x.id n) as (λ b. (cond b (put l v x) x).defective ≡ x.defective) [ true ↦ refl | false ↦ refl ];
}

abbrev cut : Label → Node → Node
cut l x = record x { own = without l x.own }

cleared-edits : (n : NodeId) (l : Label) → EditsValue (cleared n l) n l
cleared-edits n l = record {
  one = record { keeps = cleared-keeps n l; elsewhere = λ x other. ap (λ b. cond b (cut l x) x) other };
  others = λ m other x. elim (same_node x.id n) as (λ b. value_in (cond b (cut l x) x).own m ≡ value_in x.own m) [
    | true ↦ without-other x.own l m other
    | false ↦ refl
  ];
  opens = λ low x. elim (same_node x.id n) as (λ b. opens_of (cond b (cut l x) x).own ≡ opens_of x.own) [
    | true ↦ without-low x.own l low
    | false ↦ refl
  ];
  mark = λ x. elim (same_node x.id n) as (λ b. (cond b (cut l x) x).defective ≡ x.defective) [ true ↦ refl | false ↦ refl ];
}

marked-edits : (n : NodeId) (d : Bool) → EditsMark (marked n d) n
marked-edits n d = record {
  one = record { keeps = marked-keeps n d; elsewhere = λ x other. ap (λ b. cond b (record x { defective = d }) x) other };
  own = λ x. elim (same_node x.id n) as (λ b. (cond b (record x { defective = d }) x).own ≡ x.own) [ true ↦ refl | false ↦ refl ];
}

module _ {t : Tables} (laws : AreTables t) (g : Graph) (n : NodeId) where
  pub rules-with_value : (l : Label) (v : Datum) → RulesAgreeOutside t g (with_value g n l v) (touched_values t g (Some n) l)
  rules-with_value l v = rules-value (valued-edits n l v) laws g

  pub rules-without_value : (l : Label) → RulesAgreeOutside t g (without_value g n l) (touched_values t g (Some n) l)
  rules-without_value l = rules-value (cleared-edits n l) laws g

  pub rules-with_mark : (d : Bool) → RulesAgreeOutside t g (with_mark g n d) (touched_outputs t g (Some n))
  rules-with_mark d = rules-mark (marked-edits n d) laws g
