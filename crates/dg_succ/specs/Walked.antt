-- How far a walk along pairs has come.
use Rattle.std.specs.Prelude.{ℕ, List, Bool, filter, map, take, IsTrue}
use Rattle.std.specs.List.{take_while}
use Rattle.dg_base.specs.declared.ids.Endpoint.{Endpoint}
use Rattle.dg_base.specs.Same.{same_end}
use Rattle.dg_base.specs.Order.{is_end_among}
use Rattle.dg_succ.specs.Pairs.{Pair, is_pair_among}
use Rattle.dg_succ.specs.Closure.{IsWithin, Follows}

-- where the pairs that begin here end
abbrev pub ends_of : List Pair → Endpoint → List Endpoint
ends_of ps here = map (λ p. p.1) (filter (λ p. same_end here p.0) ps)

-- as pairs of a map in which nothing stands at a key
abbrev pub begins_at : Endpoint → Pair × Unit {0} → Bool
begins_at here e = same_end here e.0.0

abbrev pub end_of : Pair × Unit {0} → Endpoint
end_of e = e.0.1

-- where those end that begin here, up to the first that doesn't
abbrev pub ends_after : Endpoint → List (Pair × Unit {0}) → List Endpoint
ends_after here es = map end_of (take_while (begins_at here) es)

-- the list holds the endpoints, follows the pairs, and holds no more than has to be there
pub record IsLeastFound (ps : List Pair) (from es : List Endpoint) : Type 0 where
  pub holds : IsWithin from es
  pub closed : Follows ps es
  pub least : (fs : List Endpoint) → IsWithin from fs → Follows ps fs → IsWithin es fs

-- the same while only the endpoints before a place have been gone on from
pub record IsWalked (ps : List Pair) (from es : List Endpoint) (place : ℕ) : Type 0 where
  pub holds : IsWithin from es
  pub gone_on : (d e : Endpoint) → IsTrue (is_end_among (take place es) d) → IsTrue (is_pair_among ps (d, e)) → IsTrue (is_end_among es e)
  pub least : (fs : List Endpoint) → IsWithin from fs → Follows ps fs → IsWithin es fs
