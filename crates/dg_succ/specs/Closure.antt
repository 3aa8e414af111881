-- What some endpoints lead to along pairs.
use Rattle.std.specs.Prelude.{List, IsTrue}
use Rattle.dg_base.specs.declared.ids.Endpoint.{Endpoint}
use Rattle.dg_base.specs.Order.{is_end_among, ends_rise}
use Rattle.dg_succ.specs.Pairs.{Pair, is_pair_among}

-- each of these is among those
abbrev pub IsWithin : List Endpoint → List Endpoint → Type 0
IsWithin es ds = (e : Endpoint) → IsTrue (is_end_among es e) → IsTrue (is_end_among ds e)

-- where a pair begins among these, it ends among these
abbrev pub Follows : List Pair → List Endpoint → Type 0
Follows ps ds = (e f : Endpoint) → IsTrue (is_pair_among ps (e, f)) → IsTrue (is_end_among ds e) → IsTrue (is_end_among ds f)

-- the least list that holds some endpoints and follows the pairs, in endpoint order, each once
pub record IsLeastClosure (ps : List Pair) (es ds : List Endpoint) : Type 0 where
  pub holds : IsWithin es ds
  pub closed : Follows ps ds
  pub least : (fs : List Endpoint) → IsWithin es fs → Follows ps fs → IsWithin ds fs
  pub in_order : IsTrue (ends_rise ds)
