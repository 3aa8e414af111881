-- The rule of an endpoint says how its value is found, and the dependencies are the endpoints that
-- the rule names, in order.
use Rattle.std.specs.Prelude.{List, [], ◌∷◌, ◌++◌, Bool, cond, ◌&&◌, Option, Some, None, map, filter, filter_map, flat_map, nat_le, is_some}
use Rattle.std.specs.List.{list_any}
use Rattle.dg_base.specs.declared.ids.NodeId.{NodeId}
use Rattle.dg_base.specs.declared.ids.Label.{Label}
use Rattle.dg_base.specs.declared.ids.TheConstants.{FIRST_OPEN}
use Rattle.dg_base.specs.declared.ids.Kind.{Kind}
use Rattle.dg_base.specs.declared.ids.Endpoint.{Endpoint}
use Rattle.dg_base.specs.declared.datum.Datum.{Datum}
use Rattle.dg_base.specs.declared.datum.Datum.TheVariants as datum
use Rattle.dg_base.specs.declared.datum.PropVal.{PropVal}
use Rattle.dg_base.specs.declared.datum.FieldOf.{FieldOf}
use Rattle.dg_base.specs.declared.graph.Node.{Node}
use Rattle.dg_base.specs.declared.graph.Origin.{Origin}
use Rattle.dg_base.specs.declared.graph.Origin.TheVariants as origin
use Rattle.dg_base.specs.declared.rule.ArgRule.{ArgRule}
use Rattle.dg_base.specs.declared.rule.ArgRule.TheVariants as arg_rule
use Rattle.dg_base.specs.declared.rule.Rule.{Rule}
use Rattle.dg_base.specs.declared.rule.Rule.TheVariants as rule
use Rattle.dg_base.specs.declared.schema.Role.{Role}
use Rattle.dg_base.specs.declared.schema.Role.TheVariants as role
use Rattle.dg_base.specs.declared.schema.ArgSpec.{ArgSpec}
use Rattle.dg_base.specs.declared.schema.ArgSpec.TheVariants as arg
use Rattle.dg_base.specs.Role.{is_given}
use Rattle.dg_base.specs.Tables.{Tables}
use Rattle.dg_base.specs.Graph.{Graph, value_in, put_value}
use Rattle.dg_base.specs.Chain.{chain, kind_along}
use Rattle.dg_base.specs.Sources.{sources}

-- a label from 1,024 upward is the name of an open property
abbrev pub is_open_label : Label → Bool
is_open_label l = nat_le FIRST_OPEN l.0

-- the values of the first list, and those of the second at other labels, in label order
abbrev pub overlaid : List FieldOf → List FieldOf → List FieldOf
overlaid [] others = others
overlaid (f ∷ fs) others = put_value (overlaid fs others) f.label f.value

-- the open values that are found first along the chain, in label order
abbrev pub open_fields : List Node → List FieldOf
open_fields [] = []
open_fields (x ∷ xs) = overlaid (filter (λ f. is_open_label f.label) x.own) (open_fields xs)

abbrev pub prop_of : Datum → Option PropVal
prop_of (datum.Prop p) = Some p
prop_of _ = None

abbrev pub open_values : List Node → List PropVal
open_values xs = filter_map (λ f. prop_of f.value) (open_fields xs)

abbrev pub is_defective : List Node → Bool
is_defective xs = list_any (λ x. x.defective) xs

abbrev pub arg_rule_of : Graph → NodeId → List Node → ArgSpec → ArgRule
arg_rule_of g n xs (arg.Own l) = arg_rule.Own (record { node = n; label = l })
arg_rule_of g n xs (arg.Input i) = arg_rule.Input i (sources g n i)
arg_rule_of g n xs arg.Open = arg_rule.Open (open_values xs)

-- a property without an own value reads its original's, or has its default
abbrev pub without_own : Label → Datum → Origin → Rule
without_own l preset (origin.Plain kind) = rule.Default preset
without_own l preset (origin.Over root original) = rule.From (record { node = original; label = l })

abbrev pub own_or : Option Datum → Rule → Rule
own_or None other = other
own_or (Some v) other = rule.Own v

abbrev pub property_rule : List Node → Label → Datum → Rule
property_rule [] l preset = rule.Absent
property_rule (x ∷ xs) l preset = own_or (value_in x.own l) (without_own l preset x.origin)

-- an open label is an endpoint where a node of the chain has a value there
abbrev pub has_open : List Node → Label → Bool
has_open xs l = list_any (λ x. is_some (value_in x.own l)) xs

abbrev pub open_rule : Tables → Kind → List Node → Label → Rule
open_rule t k xs l = cond (t.is_open k && (is_open_label l && has_open xs l)) (property_rule xs l datum.Nil) rule.Absent

abbrev pub output_rule : Tables → Graph → Kind → List Node → Endpoint → Rule
output_rule t g k xs e =
    cond (is_defective xs) rule.Defective (rule.Call k e.label (map (arg_rule_of g e.node xs) (t.args k e.label)))

abbrev pub rule_by : Tables → Graph → Kind → List Node → Endpoint → Role → Rule
rule_by t g k xs e role.Nothing = open_rule t k xs e.label
rule_by t g k xs e (role.Property ty) = property_rule xs e.label (t.preset k e.label)
rule_by t g k xs e (role.Output ty cached) = output_rule t g k xs e
rule_by t g k xs e (role.Input ty array cascade substitute) = rule.Absent

abbrev pub rule_along : Tables → Graph → List Node → Endpoint → Option Kind → Rule
rule_along t g xs e None = rule.Absent
rule_along t g xs e (Some k) = rule_by t g k xs e (t.role k e.label)

abbrev pub rule_of : Tables → Graph → Endpoint → Rule
rule_of t g e = rule_along t g (chain g e.node) e (kind_along (chain g e.node))

-- the endpoints that a rule names
abbrev pub named_by_arg : ArgRule → List Endpoint
named_by_arg (arg_rule.Own e) = e ∷ []
named_by_arg (arg_rule.Input i ss) = ss
named_by_arg (arg_rule.Open ps) = []

abbrev pub named_by_args : List ArgRule → List Endpoint
named_by_args args = flat_map named_by_arg args

abbrev pub named_by : Rule → List Endpoint
named_by (rule.From e) = e ∷ []
named_by (rule.Call k l args) = named_by_args args
named_by _ = []

abbrev pub dependencies : Tables → Graph → Endpoint → List Endpoint
dependencies t g e = named_by (rule_of t g e)

-- the endpoints of a node: the properties and outputs of its kind, then the open labels that have a
-- value on some node of its chain
abbrev pub given_labels : Tables → List Node → Option Kind → List Label
given_labels t xs None = []
given_labels t xs (Some k) =
    filter (λ l. is_given (t.role k l)) (t.labels k) ++ cond (t.is_open k) (map (λ f. f.label) (open_fields xs)) []

abbrev pub ends_of : NodeId → List Label → List Endpoint
ends_of n ls = map (λ l. record { node = n; label = l }) ls

abbrev pub endpoints_at : Tables → Graph → NodeId → List Endpoint
endpoints_at t g n = ends_of n (given_labels t (chain g n) (kind_along (chain g n)))

abbrev pub endpoints : Tables → Graph → List Endpoint
endpoints t g = flat_map (λ x. endpoints_at t g x.id) g.nodes
