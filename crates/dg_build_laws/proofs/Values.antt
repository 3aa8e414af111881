-- What evaluation gives keeps what defaults, substitutes, own values and productions keep.
use Rattle.std.proofs.Common.{◌≡◌, ℕ, zero, suc, Bool, ◌&&◌, List, [], ◌∷◌, Option, Some, None, map, nat_le, Contains, length, refl, ◌≤◌, cond, true, false, leb-true}
use Rattle.std.specs.Option.{IfSome}
use Rattle.std.specs.List.{list_any}
use Rattle.dg_base.specs.declared.ids.NodeId.{NodeId}
use Rattle.dg_base.specs.declared.ids.Label.{Label}
use Rattle.dg_base.specs.declared.ids.Kind.{Kind}
use Rattle.dg_base.specs.declared.ids.Endpoint.{Endpoint}
use Rattle.dg_base.specs.declared.datum.Datum.{Datum}
use Rattle.dg_base.specs.declared.datum.Datum.TheVariants as datum
use Rattle.dg_base.specs.declared.graph.Node.{Node}
use Rattle.dg_base.specs.declared.graph.Origin.{Origin}
use Rattle.dg_base.specs.declared.graph.Origin.TheVariants as origin
use Rattle.dg_base.specs.declared.answer.Answer.{Answer}
use Rattle.dg_base.specs.declared.answer.Answer.TheVariants as answer
use Rattle.dg_base.specs.declared.answer.Fault.{Fault}
use Rattle.dg_base.specs.declared.answer.FaultCode.TheVariants as code
use Rattle.dg_base.specs.declared.rule.ArgRule.{ArgRule}
use Rattle.dg_base.specs.declared.rule.ArgRule.TheVariants as arg_rule
use Rattle.dg_base.specs.declared.rule.Rule.{Rule}
use Rattle.dg_base.specs.declared.rule.Rule.TheVariants as rule
use Rattle.dg_base.specs.declared.schema.Role.{Role}
use Rattle.dg_base.specs.declared.schema.Role.TheVariants as role
use Rattle.dg_base.specs.declared.schema.ArgVal.{ArgVal}
use Rattle.dg_base.specs.declared.schema.ArgVal.TheVariants as arg_val
use Rattle.dg_base.specs.declared.schema.Made.{Made}
use Rattle.dg_base.specs.declared.schema.Made.TheVariants as made
use Rattle.dg_base.specs.Weight.{weight}
use Rattle.dg_base.specs.Tables.{Tables}
use Rattle.dg_base.specs.Graph.{Graph, node_at, value_in}
use Rattle.dg_base.specs.Chain.{chain, chain_from, chain_within, kind_along, kind_of}
use Rattle.dg_base.specs.Rule.{arg_rule_of, is_defective, is_open_label, has_open, without_own, own_or, property_rule, rule_by, rule_along, rule_of, named_by_args}
use Rattle.dg_base.specs.Value.{max_weight, good, one_fault, is_cycle, is_bad, single_value, input_value, arg_value, faults_of_args, answer_of, faulted_or, produced, called_by, answer_by, value_within}
use Rattle.dg_base.specs.Sound.{IsSound, value_fits}
use Rattle.dg_laws.proofs.Nodes.{node_at-in}
use Rattle.dg_laws.proofs.SoundParts.{IsSound-node}
use Rattle.dg_rows.specs.declared.row.Preset.{Preset}
use Rattle.dg_rows.specs.declared.row.Preset.TheVariants as preset
use Rattle.dg_rows.specs.declared.row.Entry.TheVariants.{Property, Substituted}
use Rattle.dg_rows.specs.Rows.{PlainEntry, datum_of, entry_at, preset_of, substitute_of, rows_in}
use Rattle.dg_kinds_coll.specs.Kinds.{defold_kinds}
use Rattle.dg_kinds_coll.specs.Defold.{defold_tables}
use Rattle.dg_build_laws.proofs.Lists.{at_test, Each, Each-passed, Each-mapped}
use Rattle.dg_build_laws.proofs.Kept.{Kept, KeptFields, plain_kept, label_kept, set_kept}
use Rattle.dg_build_laws.proofs.Arguments.{OfGood, OfMade, KeptArg}
use Rattle.dg_build_laws.proofs.Productions.{made_kept}

-- ---- rules

abbrev pub KeptRule : Rule → Type 0
KeptRule (rule.Own d) = Kept d
KeptRule (rule.Default d) = Kept d
KeptRule _ = Unit {0}

-- the own values of a chain's first node
abbrev pub KeptFirst : List Node → Type 0
KeptFirst [] = Unit {0}
KeptFirst (x ∷ xs) = KeptFields x.own

without_kept : (l : Label) (d : Datum) → Kept d → (w : Origin) → KeptRule (without_own l d w)
without_kept l d h (origin.Plain kind) = h
without_kept l d h (origin.Over root original) = tt

own_kept : (v : Option Datum) (r : Rule) → IfSome v Kept → KeptRule r → KeptRule (own_or v r)
own_kept None r h k = k
own_kept (Some d) r h k = h

property_kept : (xs : List Node) (l : Label) (d : Datum) → KeptFirst xs → Kept d → KeptRule (property_rule xs l d)
property_kept [] l d h k = tt
property_kept (x ∷ xs) l d h k = own_kept (value_in x.own l) (without_own l d x.origin) (label_kept x.own l h) (without_kept l d k x.origin)

module _ (t : Tables) (presets : (k : Kind) (l : Label) → Kept (t.preset k l)) (g : Graph) where
  role_kept : (k : Kind) (xs : List Node) (e : Endpoint) → KeptFirst xs → (r : Role) → KeptRule (rule_by t g k xs e r)
  role_kept k xs e h role.Nothing =
      at_test KeptRule (t.is_open k && (is_open_label e.label && has_open xs e.label)) (property_rule xs e.label datum.Nil) rule.Absent
      (property_kept xs e.label datum.Nil h (plain_kept datum.Nil refl)) tt
  role_kept k xs e h (role.Property ty) = property_kept xs e.label (t.preset k e.label) h (presets k e.label)
  role_kept k xs e h (role.Output ty cached) =
      at_test KeptRule (is_defective xs) rule.Defective (rule.Call k e.label (map (arg_rule_of g e.node xs) (t.args k e.label))) tt tt
  role_kept k xs e h (role.Input ty array cascade substitute) = tt

  along_kept : (xs : List Node) (e : Endpoint) → KeptFirst xs → (o : Option Kind) → KeptRule (rule_along t g xs e o)
  along_kept xs e h None = tt
  along_kept xs e h (Some k) = role_kept k xs e h (t.role k e.label)

  -- the own values of each node
  abbrev pub KeptOwn : Type 0
  KeptOwn = (x : Node) → Contains g.nodes x → KeptFields x.own

  first_kept : KeptOwn → (k : ℕ) (n : NodeId) → KeptFirst (chain_within k g n)
  first_kept own zero n = tt
  first_kept own (suc k) n = by_node (node_at g n) refl
    where
      by_node : (o : Option Node) → node_at g n ≡ o → KeptFirst (chain_from o (chain_within k g))
      by_node None e = tt
      by_node (Some x) e = own x (node_at-in g n x e)

  pub rule_kept : KeptOwn → (e : Endpoint) → KeptRule (rule_of t g e)
  rule_kept own e = along_kept (chain g e.node) e (first_kept own (length g.nodes) e.node) (kind_along (chain g e.node))

-- ---- calls, of any fact on what productions give

faulted_good : (P : Datum → Type 0) (fs : List Fault) (a : Answer) → OfGood P a → OfGood P (faulted_or fs a)
faulted_good P [] a h = h
faulted_good P (f ∷ fs) a h = tt

-- what is produced weighs no more than it may
abbrev pub Light : (Datum → Type 0) → Datum → Type 0
Light P d = P d × (weight d ≤ max_weight)

made_light : (P : Datum → Type 0) (e : Endpoint) (m : Made) → OfMade P m → OfGood (Light P) (answer_of e m)
made_light P e (made.Good d) h = by_test (nat_le (weight d) max_weight) refl
  where
    by_test : (b : Bool) → nat_le (weight d) max_weight ≡ b → OfGood (Light P) (cond b (good d) (one_fault e code.TooLong))
    by_test true light = (h, leb-true (weight d) max_weight light)
    by_test false heavy = tt
made_light P e (made.Fault c) h = tt

pub called_light : (P : Datum → Type 0) (t : Tables) (e : Endpoint) (k : Kind) (l : Label) (value : Endpoint → Answer) (args : List ArgRule) →
    OfMade P (t.produce k l (map (arg_value t k value) args)) → OfGood (Light P) (called_by t e k l value args)
called_light P t e k l value args h =
    let vs = map (arg_value t k value) args in
    at_test (OfGood (Light P)) (list_any is_cycle (map value (named_by_args args))) answer.Cycle (produced t e k l vs) tt
    (faulted_good (Light P) (faults_of_args vs) (answer_of e (t.produce k l vs)) (made_light P e (t.produce k l vs) h))

first_good : (P : Datum → Type 0) (a : Answer) → OfGood (Light P) a → OfGood P a
first_good P (answer.Good d) h = h.0
first_good P _ h = tt

-- ---- values

single_kept : (b : Bool) (s : Datum) → Kept s → (as_ : List Answer) → Each (OfGood Kept) as_ → KeptArg (single_value b s as_)
single_kept b s k [] h = tt
single_kept b s k (a ∷ as_) h = at_test KeptArg (b && is_bad a) (arg_val.Sub s) (arg_val.One a) k h.0

input_kept : (r : Role) (s : Datum) → Kept s → (as_ : List Answer) → Each (OfGood Kept) as_ → KeptArg (input_value r s as_)
input_kept (role.Input ty array cascade b) s k as_ h = at_test KeptArg array (arg_val.Many as_) (single_value b s as_) h (single_kept b s k as_ h)
input_kept _ s k as_ h = tt

-- what a schema's tables have to keep
pub record KeepsTables (t : Tables) : Type 0 where
  pub presets : (k : Kind) (l : Label) → Kept (t.preset k l)
  pub substitutes : (k : Kind) (l : Label) → Kept (t.substitute k l)
  pub productions : (k : Kind) (l : Label) (args : List ArgVal) → Each KeptArg args → OfMade Kept (t.produce k l args)

module _ {t : Tables} (keeps : KeepsTables t) where
  arg_kept : (k : Kind) (value : Endpoint → Answer) → ((e : Endpoint) → OfGood Kept (value e)) → (r : ArgRule) → KeptArg (arg_value t k value r)
  arg_kept k value h (arg_rule.Own e) = h e
  arg_kept k value h (arg_rule.Input i ss) =
      input_kept (t.role k i) (t.substitute k i) (keeps.substitutes k i) (map value ss) (Each-mapped (OfGood Kept) value h ss)
  arg_kept k value h (arg_rule.Open ps) = tt

  answer_kept : (e : Endpoint) (value : Endpoint → Answer) → ((o : Endpoint) → OfGood Kept (value o)) → (r : Rule) → KeptRule r → OfGood Kept (answer_by t e value r)
  answer_kept e value h rule.Absent k = tt
  answer_kept e value h rule.Defective k = tt
  answer_kept e value h (rule.Own d) k = k
  answer_kept e value h (rule.From o) k = h o
  answer_kept e value h (rule.Default d) k = k
  answer_kept e value h (rule.Call kind l args) k =
      first_good Kept (called_by t e kind l value args)
      (called_light Kept t e kind l value args
      (keeps.productions kind l (map (arg_value t kind value) args) (Each-mapped KeptArg (arg_value t kind value) (arg_kept kind value h) args)))

  pub within_kept : (g : Graph) → KeptOwn t keeps.presets g → (k : ℕ) (e : Endpoint) → OfGood Kept (value_within k t g e)
  within_kept g own zero e = tt
  within_kept g own (suc k) e = answer_kept e (value_within k t g) (within_kept g own k) (rule_of t g e) (rule_kept t keeps.presets g own e)

-- a sound graph's own values are of the types of properties, or open properties
pub sound_kept : {t : Tables} {g : Graph} → IsSound t g → (x : Node) → Contains g.nodes x → KeptFields x.own
sound_kept {t} {g} s x c = Each-passed (λ f. Kept f.value) (value_fits t (kind_of g x.id)) (set_kept t (kind_of g x.id)) x.own (IsSound-node s x c).values_fit

-- ---- the whole schema

preset_kept : (p : Preset) → Kept (datum_of p)
preset_kept (preset.Number n) = plain_kept (datum.Dec n) refl
preset_kept preset.Text = plain_kept (datum.Text []) refl
preset_kept (preset.Flag b) = plain_kept (datum.Flag b) refl
preset_kept (preset.Vec3 v) = plain_kept (datum.Vec3 v) refl
preset_kept (preset.Quat v) = plain_kept (datum.Quat v) refl

default_kept : (o : Option PlainEntry) → Kept (preset_of o)
default_kept (Some (Property p)) = preset_kept p
default_kept _ = plain_kept datum.Nil refl

stand_in_kept : (o : Option PlainEntry) → Kept (substitute_of o)
stand_in_kept (Some (Substituted p)) = preset_kept p
stand_in_kept _ = plain_kept datum.Nil refl

pub defold_keeps : KeepsTables defold_tables
defold_keeps = record {
  presets = λ k l. default_kept (entry_at (rows_in defold_kinds k) l);
  substitutes = λ k l. stand_in_kept (entry_at (rows_in defold_kinds k) l);
  productions = λ k l args h. made_kept args h k l;
}
