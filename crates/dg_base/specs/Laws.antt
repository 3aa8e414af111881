-- What holds of every schema and every graph, as statements that contracts name.
use Rattle.std.specs.Prelude.{◌≡◌, ℕ, ◌+◌, ◌≤◌, List, Bool, true, Contains, map, length, sum_by, IsTrue}
use Rattle.dg_base.specs.declared.ids.NodeId.{NodeId}
use Rattle.dg_base.specs.declared.ids.Endpoint.{Endpoint}
use Rattle.dg_base.specs.declared.datum.Datum.{Datum}
use Rattle.dg_base.specs.declared.datum.Datum.TheVariants as datum
use Rattle.dg_base.specs.declared.datum.PropVal.{PropVal}
use Rattle.dg_base.specs.declared.datum.FieldOf.{FieldOf}
use Rattle.dg_base.specs.declared.answer.Answer.TheVariants as answer
use Rattle.dg_base.specs.Weight.{weight}
use Rattle.dg_base.specs.Order.{is_node_among, rises, is_end_among, ends_rise}
use Rattle.dg_base.specs.Tables.{Tables}
use Rattle.dg_base.specs.Graph.{Graph}
use Rattle.dg_base.specs.Rule.{rule_of, dependencies, endpoints}
use Rattle.dg_base.specs.Value.{answer_by, value_within, enough_fuel, value_at}
use Rattle.dg_base.specs.Sound.{IsSound}
use Rattle.dg_base.specs.Owned.{overs, owned, doomed}
use Rattle.dg_base.specs.Dirty.{depends_on, dirty}

-- ---- weights

-- 16, the bytes of a text, and the weights of the members
pub record WeightsAddUp : Type 0 where
  pub text : (bytes : List ℕ) → weight (datum.Text bytes) ≡ 16 + length bytes
  pub prop : (p : PropVal) → weight (datum.Prop p) ≡ 16 + length p.text
  pub list : (items : List Datum) → weight (datum.List items) ≡ 16 + sum_by weight items
  pub record_ : (fields : List FieldOf) → weight (datum.Rec fields) ≡ 16 + sum_by (λ f. weight f.value) fields

-- ---- values

-- more fuel than one more than the number of endpoints gives the same value
abbrev pub MoreFuelIsTheSame : Tables → Type 0
MoreFuelIsTheSame t =
    (g : Graph) → IsSound t g → (k : ℕ) → enough_fuel t g ≤ k → (e : Endpoint) → value_within k t g e ≡ value_at t g e

-- a value is what the endpoint's rule makes of the values of its dependencies
abbrev pub ValuesFollowRules : Tables → Type 0
ValuesFollowRules t = (g : Graph) → IsSound t g → (e : Endpoint) → value_at t g e ≡ answer_by t e (value_at t g) (rule_of t g e)

-- a way along dependencies, through calls and originals, from one endpoint to another
pub data Leads (t : Tables) (g : Graph) : Endpoint → Endpoint → Type 0 where
  directly : (e o : Endpoint) → Contains (dependencies t g e) o → Leads t g e o
  onwards : (e o p : Endpoint) → Contains (dependencies t g e) o → Leads t g o p → Leads t g e p

-- an endpoint that leads to itself is a cycle, and so is each that leads to it
abbrev pub CyclesAreCycles : Tables → Type 0
CyclesAreCycles t =
    (g : Graph) (o : Endpoint) → Leads t g o o →
    (value_at t g o ≡ answer.Cycle) × ((e : Endpoint) → Leads t g e o → value_at t g e ≡ answer.Cycle)

-- ---- deletions

-- the least set that holds a node, the override nodes of its members, and what its members own, as a
-- list in id order
pub record IsLeastTaken (t : Tables) (g : Graph) (n : NodeId) (ns : List NodeId) : Type 0 where
  pub itself : IsTrue (is_node_among ns n)
  pub overs_too : (m x : NodeId) → IsTrue (is_node_among ns m) → IsTrue (is_node_among (overs g m) x) → IsTrue (is_node_among ns x)
  pub owned_too : (m x : NodeId) → IsTrue (is_node_among ns m) → IsTrue (is_node_among (owned t g m) x) → IsTrue (is_node_among ns x)
  pub least : (p : NodeId → Bool) → p n ≡ true →
      ((m x : NodeId) → p m ≡ true → IsTrue (is_node_among (overs g m) x) → p x ≡ true) →
      ((m x : NodeId) → p m ≡ true → IsTrue (is_node_among (owned t g m) x) → p x ≡ true) →
      (m : NodeId) → IsTrue (is_node_among ns m) → p m ≡ true
  pub in_order : IsTrue (rises (map (λ m. m.0) ns))

-- a deletion takes the least such set
abbrev pub DeletionTakesTheLeast : Tables → Type 0
DeletionTakesTheLeast t = (g : Graph) → IsSound t g → (n : NodeId) → IsLeastTaken t g n (doomed t g n)

-- ---- what is dirty

-- the least list that holds some endpoints and every endpoint of the graph with a dependency in it, in
-- endpoint order, each once
pub record IsLeastDirty (t : Tables) (g : Graph) (es ds : List Endpoint) : Type 0 where
  pub holds : (e : Endpoint) → IsTrue (is_end_among es e) → IsTrue (is_end_among ds e)
  pub closed : (e : Endpoint) → IsTrue (is_end_among (endpoints t g) e) → IsTrue (depends_on t g ds e) → IsTrue (is_end_among ds e)
  pub least : (fs : List Endpoint) → ((e : Endpoint) → IsTrue (is_end_among es e) → IsTrue (is_end_among fs e)) →
      ((e : Endpoint) → IsTrue (is_end_among (endpoints t g) e) → IsTrue (depends_on t g fs e) → IsTrue (is_end_among fs e)) →
      (e : Endpoint) → IsTrue (is_end_among ds e) → IsTrue (is_end_among fs e)
  pub in_order : IsTrue (ends_rise ds)

-- in every graph, sound or not
abbrev pub DirtyIsTheLeast : Tables → Type 0
DirtyIsTheLeast t = (g : Graph) (es : List Endpoint) → IsLeastDirty t g es (dirty t g es)
