-- What holds of every set of pairs, as statements that contracts name.
use Rattle.std.specs.Prelude.{◌≡◌, List, ◌&&◌}
use Rattle.dg_base.specs.declared.ids.Endpoint.{Endpoint}
use Rattle.dg_base.specs.Order.{is_end_among}
use Rattle.dg_base.specs.Tables.{Tables}
use Rattle.dg_base.specs.Graph.{Graph}
use Rattle.dg_base.specs.Rule.{dependencies, endpoints}
use Rattle.dg_base.specs.Dirty.{dirty}
use Rattle.dg_succ.specs.Pairs.{Pair, is_pair_among}
use Rattle.dg_succ.specs.Closure.{IsLeastClosure}

-- there is one least list
abbrev pub LeastClosuresAreOne : Type 0
LeastClosuresAreOne = (ps : List Pair) (es ds fs : List Endpoint) → IsLeastClosure ps es ds → IsLeastClosure ps es fs → ds ≡ fs

-- the pairs lead from each dependency of an endpoint of the graph to that endpoint
abbrev pub AreDependencies : Tables → Graph → List Pair → Type 0
AreDependencies t g ps = (d e : Endpoint) → is_pair_among ps (d, e) ≡ (is_end_among (endpoints t g) e && is_end_among (dependencies t g e) d)

-- what is dirty is the least list over these pairs
abbrev pub DirtyIsAClosure : Tables → Type 0
DirtyIsAClosure t = (g : Graph) (ps : List Pair) → AreDependencies t g ps → (es ds : List Endpoint) → IsLeastClosure ps es ds → ds ≡ dirty t g es
