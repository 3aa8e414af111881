-- What a transaction touches and what it leaves as it was, as statements that contracts name.
use Rattle.std.specs.Prelude.{◌≡◌, ℕ, ◌≤◌, List, false, Ok, IsTrue}
use Rattle.dg_base.specs.declared.ids.Endpoint.{Endpoint}
use Rattle.dg_base.specs.declared.step.Step.{Step}
use Rattle.dg_base.specs.Order.{is_end_among}
use Rattle.dg_base.specs.Tables.{Tables}
use Rattle.dg_base.specs.Graph.{Graph}
use Rattle.dg_base.specs.Rule.{rule_of}
use Rattle.dg_base.specs.Value.{value_within, value_at}
use Rattle.dg_base.specs.Sound.{IsSound, ids_below}
use Rattle.dg_base.specs.Transact.{Applied, applied}
use Rattle.dg_base.specs.Dirty.{dirty}
use Rattle.dg_touch.specs.Reads.{ReadsSame}

-- ---- what a rule reads

-- a rule is a function of what it reads, in every graph
abbrev pub RulesReadChains : Tables → Type 0
RulesReadChains t = (g h : Graph) (e : Endpoint) → ReadsSame t g h e → rule_of t g e ≡ rule_of t h e

-- ---- rules

-- each endpoint whose rule differs between two graphs is among these
abbrev pub RulesAgreeOutside : Tables → Graph → Graph → List Endpoint → Type 0
RulesAgreeOutside t g h es = (e : Endpoint) → is_end_among es e ≡ false → rule_of t g e ≡ rule_of t h e

-- a transaction that is accepted: from a sound graph, with a next id above its ids
pub record IsAccepted (t : Tables) (g : Graph) (next : ℕ) (ss : List Step) (a : Applied) : Type 0 where
  pub sound : IsSound t g
  pub below : IsTrue (ids_below g next)
  pub some : 1 ≤ next
  pub gives : applied t g next ss ≡ Ok a

-- it touches every endpoint whose rule it changes
abbrev pub RulesAgreeOutsideTouched : Tables → Type 0
RulesAgreeOutsideTouched t =
    (g : Graph) (next : ℕ) (ss : List Step) (a : Applied) → IsAccepted t g next ss a → RulesAgreeOutside t g a.graph a.touched

-- ---- values

-- outside of these rules are the same, and values are the same, with any fuel and with enough
pub record ValuesAgreeOutside (t : Tables) (g h : Graph) (ds : List Endpoint) : Type 0 where
  pub rules : RulesAgreeOutside t g h ds
  pub within : (k : ℕ) (e : Endpoint) → is_end_among ds e ≡ false → value_within k t g e ≡ value_within k t h e
  pub settled : (e : Endpoint) → is_end_among ds e ≡ false → value_at t g e ≡ value_at t h e

-- where each endpoint whose rule differs is among some, values agree outside of what they make dirty in
-- the second graph
abbrev pub ValuesAgreeOutsideDirty : Tables → Type 0
ValuesAgreeOutsideDirty t =
    (g h : Graph) (es : List Endpoint) → IsSound t g → IsSound t h → RulesAgreeOutside t g h es → ValuesAgreeOutside t g h (dirty t h es)

-- a transaction that is done leaves the values outside of what is dirty after it
abbrev pub DoingKeepsValues : Tables → Type 0
DoingKeepsValues t =
    (g : Graph) (next : ℕ) (ss : List Step) (a : Applied) → IsAccepted t g next ss a → ValuesAgreeOutside t g a.graph (dirty t a.graph a.touched)

-- and one that is taken back those outside of what is dirty in the graph before it
abbrev pub UndoingKeepsValues : Tables → Type 0
UndoingKeepsValues t =
    (g : Graph) (next : ℕ) (ss : List Step) (a : Applied) → IsAccepted t g next ss a → ValuesAgreeOutside t a.graph g (dirty t g a.touched)
