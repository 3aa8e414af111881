-- Numbers that rise, nodes in id order, and endpoints in theirs: by node, then by label.
use Rattle.std.specs.Prelude.{ℕ, List, [], ◌∷◌, Bool, true, cond, not, ◌&&◌, ◌||◌, nat_lt}
use Rattle.std.specs.List.{list_any, list_all}
use Rattle.dg_base.specs.declared.ids.NodeId.{NodeId}
use Rattle.dg_base.specs.declared.ids.Endpoint.{Endpoint}
use Rattle.dg_base.specs.Same.{same_node, same_end}

-- each number is below the next
abbrev pub rises_from : ℕ → List ℕ → Bool
rises_from a [] = true
rises_from a (b ∷ bs) = nat_lt a b && rises_from b bs

abbrev pub rises : List ℕ → Bool
rises [] = true
rises (a ∷ as_) = rises_from a as_

-- ---- nodes

abbrev pub is_node_among : List NodeId → NodeId → Bool
is_node_among ns n = list_any (same_node n) ns

-- each node stands once
abbrev pub nodes_once : List NodeId → Bool
nodes_once [] = true
nodes_once (n ∷ ns) = not (is_node_among ns n) && nodes_once ns

-- ---- lists in order: each one stands once

-- one put into its place among others in order, where it isn't there. `same` tells which are the same,
-- and `before` which comes first
abbrev pub put_by : {X : Type 0} → (X → X → Bool) → (X → X → Bool) → X → List X → List X
put_by same before x [] = x ∷ []
put_by same before x (y ∷ ys) = cond (same x y) (y ∷ ys) (cond (before x y) (x ∷ y ∷ ys) (y ∷ put_by same before x ys))

abbrev pub ordered_by : {X : Type 0} → (X → X → Bool) → (X → X → Bool) → List X → List X
ordered_by same before [] = []
ordered_by same before (x ∷ xs) = put_by same before x (ordered_by same before xs)

-- each is before all that follow
abbrev pub rise_by : {X : Type 0} → (X → X → Bool) → List X → Bool
rise_by before [] = true
rise_by before (x ∷ xs) = list_all (before x) xs && rise_by before xs

-- nodes in id order
abbrev pub is_node_before : NodeId → NodeId → Bool
is_node_before a b = nat_lt a.0 b.0

abbrev pub ordered_nodes : List NodeId → List NodeId
ordered_nodes = ordered_by same_node is_node_before

-- ---- endpoints

abbrev pub is_end_among : List Endpoint → Endpoint → Bool
is_end_among es e = list_any (same_end e) es

abbrev pub is_end_before : Endpoint → Endpoint → Bool
is_end_before a b = nat_lt a.node.0 b.node.0 || (same_node a.node b.node && nat_lt a.label.0 b.label.0)

abbrev pub put_end : Endpoint → List Endpoint → List Endpoint
put_end = put_by same_end is_end_before

abbrev pub ordered : List Endpoint → List Endpoint
ordered = ordered_by same_end is_end_before

abbrev pub ends_rise : List Endpoint → Bool
ends_rise = rise_by is_end_before
