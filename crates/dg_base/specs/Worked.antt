-- Small graphs of which the checker computes what the definitions say.
use Rattle.std.specs.Prelude.{ℕ, zero, suc, ◌*◌, List, [], ◌∷◌, ◌++◌, true, false, cond, ◌==◌, pos, map, length}
use Rattle.dg_base.specs.declared.ids.NodeId.{NodeId}
use Rattle.dg_base.specs.declared.ids.Label.{Label}
use Rattle.dg_base.specs.declared.ids.Endpoint.{Endpoint}
use Rattle.dg_base.specs.declared.ids.ArcRec.{ArcRec}
use Rattle.dg_base.specs.declared.datum.Datum.{Datum}
use Rattle.dg_base.specs.declared.datum.Datum.TheVariants as datum
use Rattle.dg_base.specs.declared.datum.PType.TheVariants as ptype
use Rattle.dg_base.specs.declared.schema.Ty.TheVariants as ty
use Rattle.dg_base.specs.declared.schema.Role.TheVariants as role
use Rattle.dg_base.specs.declared.schema.ArgSpec.TheVariants as arg
use Rattle.dg_base.specs.declared.answer.Answer.TheVariants as answer
use Rattle.dg_base.specs.declared.answer.Fault.{Fault}
use Rattle.dg_base.specs.declared.answer.FaultCode.TheVariants as code
use Rattle.dg_base.specs.declared.graph.Node.{Node}
use Rattle.dg_base.specs.declared.graph.Origin.TheVariants as origin
use Rattle.dg_base.specs.Tables.{Tables}
use Rattle.dg_base.specs.Graph.{Graph}
use Rattle.dg_base.specs.declared.step.NodeRef.{Id}
use Rattle.dg_base.specs.declared.step.Step.{Step}
use Rattle.dg_base.specs.declared.step.Step.TheVariants as step
use Rattle.dg_base.specs.Changes.{over_node}
use Rattle.dg_base.specs.Progress.{Progress}
use Rattle.dg_base.specs.Transact.{Applied}
use Rattle.dg_base.specs.Rule.{rule_of}
use Rattle.dg_base.specs.Value.{faulted_or, faults_of, made_good, value_at, productions_by}
use Rattle.dg_base.specs.First.{num, sum_, value, terms, extra, total, first_tables}

abbrev pub node_id : ℕ → NodeId
node_id n = record { 0 = n }

abbrev pub at : ℕ → Label → Endpoint
at n l = record { node = node_id n; label = l }

abbrev pub arc_from : ℕ → Label → ℕ → Label → ArcRec
arc_from n l m i = record { src = at n l; node = node_id m; input = i }

abbrev pub whole : ℕ → Datum
whole n = datum.Dec (pos (n * 1000000000))

-- a Num without and with an own value, a Sum, a Sum that is marked defective, and an override node
abbrev pub num_node : ℕ → Node
num_node n = record { id = node_id n; origin = origin.Plain num; defective = false; own = [] }

abbrev pub num_set : ℕ → ℕ → Node
num_set n v = record { id = node_id n; origin = origin.Plain num; defective = false; own = record { label = value; value = whole v } ∷ [] }

abbrev pub sum_node : ℕ → Node
sum_node n = record { id = node_id n; origin = origin.Plain sum_; defective = false; own = [] }

abbrev pub marked_sum : ℕ → Node
marked_sum n = record { id = node_id n; origin = origin.Plain sum_; defective = true; own = [] }

abbrev pub marked_num : ℕ → ℕ → Node
marked_num n v = record { id = node_id n; origin = origin.Plain num; defective = true; own = record { label = value; value = whole v } ∷ [] }

abbrev pub over : ℕ → ℕ → ℕ → Node
over n root original = over_node n (node_id root) (node_id original)

abbrev pub over_set : ℕ → ℕ → ℕ → ℕ → Node
over_set n root original v =
    record { id = node_id n; origin = origin.Over (node_id root) (node_id original); defective = false; own = record { label = value; value = whole v } ∷ [] }

-- 3 and 4 are added
abbrev pub three_and_four : Graph
three_and_four = record {
  nodes = num_set 1 3 ∷ num_set 2 4 ∷ sum_node 3 ∷ [];
  arcs = arc_from 1 value 3 terms ∷ arc_from 2 value 3 terms ∷ [];
}

-- ten times 999,999,999 is past the largest number
abbrev pub ten_large : Graph
ten_large = record {
  nodes = map (λ n. num_set n 999999999) (1 ∷ 2 ∷ 3 ∷ 4 ∷ 5 ∷ 6 ∷ 7 ∷ 8 ∷ 9 ∷ 10 ∷ []) ++ sum_node 11 ∷ [];
  arcs = map (λ n. arc_from n value 11 terms) (1 ∷ 2 ∷ 3 ∷ 4 ∷ 5 ∷ 6 ∷ 7 ∷ 8 ∷ 9 ∷ 10 ∷ []);
}

-- the first sum is its own term, and the second one reads it where a substitute could stand in
abbrev pub own_term : Graph
own_term = record {
  nodes = sum_node 1 ∷ sum_node 2 ∷ [];
  arcs = arc_from 1 total 1 terms ∷ arc_from 1 total 2 extra ∷ [];
}

-- a marked sum is read by one input with a substitute and by one without
abbrev pub marked_source : Graph
marked_source = record {
  nodes = marked_sum 1 ∷ sum_node 2 ∷ sum_node 3 ∷ [];
  arcs = arc_from 1 total 2 extra ∷ arc_from 1 total 3 terms ∷ [];
}

-- a marked number stays readable
abbrev pub marked_property : Graph
marked_property = record { nodes = marked_num 1 5 ∷ []; arcs = [] }

-- an override of a number, without and with an own value
abbrev pub inheriting : Graph
inheriting = record { nodes = num_set 1 5 ∷ over 2 2 1 ∷ over_set 3 3 1 6 ∷ []; arcs = [] }

-- a sum of one number, and an override of both, in which the number is 6: the override node of the
-- sum inherits the source, which is replaced by the number's override node
abbrev pub replaced_source : Graph
replaced_source = record {
  nodes = num_set 1 5 ∷ sum_node 2 ∷ over 3 3 2 ∷ over_set 4 3 1 6 ∷ [];
  arcs = arc_from 1 value 2 terms ∷ [];
}

-- the same, but a source of its own replaces all that the sum's override node inherits
abbrev pub explicit_source : Graph
explicit_source = record {
  nodes = num_set 1 5 ∷ sum_node 2 ∷ over 3 3 2 ∷ over_set 4 3 1 6 ∷ num_set 5 8 ∷ [];
  arcs = arc_from 1 value 2 terms ∷ arc_from 5 value 3 terms ∷ [];
}

-- so many different faults
abbrev pub faults_below : ℕ → List Fault
faults_below zero = []
faults_below (suc n) = record { at = at n total; code = code.Defective } ∷ faults_below n

abbrev pub kept_of : ℕ → ℕ
kept_of n = length (faults_of (faulted_or (faults_below n) answer.Cycle))

-- two arcs into an input that takes one
abbrev pub two_extras : Graph
two_extras = record {
  nodes = num_node 1 ∷ num_node 2 ∷ sum_node 3 ∷ [];
  arcs = arc_from 1 value 3 extra ∷ arc_from 2 value 3 extra ∷ [];
}

abbrev pub one_extra : Graph
one_extra = record { nodes = num_node 1 ∷ num_node 2 ∷ sum_node 3 ∷ []; arcs = arc_from 1 value 3 extra ∷ [] }

abbrev pub other_extra : Graph
other_extra = record { nodes = num_node 1 ∷ num_node 2 ∷ sum_node 3 ∷ []; arcs = arc_from 2 value 3 extra ∷ [] }

-- a transaction that begins with a graph
abbrev pub begun : Graph → ℕ → Progress
begun g next = record { graph = g; next = next; made = [] }

-- a number is set, one is made, and one that isn't there is set
abbrev pub third_refused : List Step
third_refused =
    step.Set (Id (node_id 1)) value (whole 5) ∷ step.Make num ∷ step.Set (Id (node_id 9)) value (whole 1) ∷ []

-- a sum of a sum, which owns its terms, the second of them a number that it shares with the first
abbrev pub owning : Graph
owning = record {
  nodes = num_node 1 ∷ num_node 2 ∷ sum_node 3 ∷ sum_node 4 ∷ [];
  arcs = arc_from 2 value 3 terms ∷ arc_from 1 value 3 terms ∷ arc_from 3 total 4 terms ∷ arc_from 1 value 4 terms ∷ [];
}

-- a sum of one number, and an override of both
abbrev pub overridden : Graph
overridden = record {
  nodes = num_node 1 ∷ sum_node 2 ∷ over 3 3 2 ∷ over 4 3 1 ∷ [];
  arcs = arc_from 1 value 2 terms ∷ [];
}

-- the sum and the number alone
abbrev pub not_overridden : Graph
not_overridden = record { nodes = num_node 1 ∷ sum_node 2 ∷ []; arcs = arc_from 1 value 2 terms ∷ [] }

-- the same without the arc
abbrev pub apart : Graph
apart = record { nodes = num_node 1 ∷ sum_node 2 ∷ []; arcs = [] }

-- a sum, an override of it, an override of that, and a number
abbrev pub twice_overridden : Graph
twice_overridden = record { nodes = sum_node 1 ∷ over 2 2 1 ∷ over 3 3 2 ∷ num_node 4 ∷ []; arcs = [] }

-- the number connected to the sum: it has got an override node in the first override, and that one
-- has got an override node in the second
abbrev pub twice_populated : Graph
twice_populated = record {
  nodes = sum_node 1 ∷ over 2 2 1 ∷ over 3 3 2 ∷ num_node 4 ∷ over 5 2 4 ∷ over 6 3 5 ∷ [];
  arcs = arc_from 4 value 1 terms ∷ [];
}

-- a transaction that made nothing
abbrev pub done : Graph → ℕ → List Endpoint → Applied
done g next touched = record { graph = g; next = next; made = []; touched = touched }

-- steps on nodes that are there
abbrev pub deletes : ℕ → List Step
deletes n = step.Delete (Id (node_id n)) ∷ []

abbrev pub sets : ℕ → ℕ → List Step
sets n v = step.Set (Id (node_id n)) value (whole v) ∷ []

abbrev pub connects : ℕ → Label → ℕ → Label → List Step
connects n l m i = step.Connect (Id (node_id n)) l (Id (node_id m)) i ∷ []

abbrev pub disconnects : ℕ → Label → ℕ → Label → List Step
disconnects n l m i = step.Disconnect (Id (node_id n)) l (Id (node_id m)) i ∷ []

-- a sum of a number, a sum of that, and a sum of that one
abbrev pub three_sums : Graph
three_sums = record {
  nodes = num_node 1 ∷ sum_node 2 ∷ sum_node 3 ∷ sum_node 4 ∷ num_node 5 ∷ [];
  arcs = arc_from 1 value 2 terms ∷ arc_from 2 total 3 terms ∷ arc_from 3 total 4 terms ∷ arc_from 5 value 4 terms ∷ [];
}

-- a schema with one kind, which is open: its output reads the open values, and says nothing of them
abbrev pub shown : Label
shown = record { 0 = 1 }

abbrev pub open_tables : Tables
open_tables = record {
  labels = λ k. shown ∷ [];
  role = λ k l. cond (l.0 == 1) (role.Output ty.Number true) role.Nothing;
  is_open = λ k. true;
  args = λ k l. arg.Open ∷ [];
  preset = λ k l. datum.Nil;
  substitute = λ k l. datum.Nil;
  produce = λ k l args. made_good datum.Nil;
}

-- a name that was interned first, and a node with a value there that an override node inherits
abbrev pub speed : Label
speed = record { 0 = 1024 }

abbrev pub speed_set : Node
speed_set = record {
  id = node_id 1;
  origin = origin.Plain num;
  defective = false;
  own = record { label = speed; value = datum.Prop (record { name = speed; ptype = ptype.Number; text = [] }) } ∷ [];
}

abbrev pub open_inherited : Graph
open_inherited = record { nodes = speed_set ∷ over 2 2 1 ∷ []; arcs = [] }

-- how many productions the value of an endpoint takes, beside those of its dependencies
abbrev pub productions_of : Graph → Endpoint → ℕ
productions_of g e = productions_by first_tables (value_at first_tables g) (rule_of first_tables g e)
