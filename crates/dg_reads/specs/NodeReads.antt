-- What is read of a node: its mark, its own values at open labels, and the rule of a property by its
-- origin and its own value there.
use Rattle.std.specs.Prelude.{List, [], Bool, false, Option, Some, None, filter}
use Rattle.dg_base.specs.declared.ids.NodeId.{NodeId}
use Rattle.dg_base.specs.declared.ids.Label.{Label}
use Rattle.dg_base.specs.declared.datum.Datum.{Datum}
use Rattle.dg_base.specs.declared.datum.FieldOf.{FieldOf}
use Rattle.dg_base.specs.declared.graph.Node.{Node}
use Rattle.dg_base.specs.declared.graph.Origin.{Origin}
use Rattle.dg_base.specs.declared.rule.Rule.{Rule}
use Rattle.dg_base.specs.declared.rule.Rule.TheVariants as rule
use Rattle.dg_base.specs.Graph.{Graph, node_at}
use Rattle.dg_base.specs.Rule.{is_open_label, own_or, without_own}

abbrev pub mark_of : Option Node → Bool
mark_of None = false
mark_of (Some x) = x.defective

abbrev pub mark_at : Graph → NodeId → Bool
mark_at g n = mark_of (node_at g n)

abbrev pub open_of : Option Node → List FieldOf
open_of None = []
open_of (Some x) = filter (λ f. is_open_label f.label) x.own

abbrev pub own_open : Graph → NodeId → List FieldOf
own_open g n = open_of (node_at g n)

abbrev pub property_from : Option Origin → Option Datum → Label → Datum → Rule
property_from None v l preset = rule.Absent
property_from (Some o) v l preset = own_or v (without_own l preset o)
