-- Pairs of endpoints in order, each once: by where they begin, then by where they end.
use Rattle.std.specs.Prelude.{List, Bool, ◌&&◌, ◌||◌, not, filter}
use Rattle.std.specs.List.{list_any}
use Rattle.dg_base.specs.declared.ids.Endpoint.{Endpoint}
use Rattle.dg_base.specs.Same.{same_end}
use Rattle.dg_base.specs.Order.{is_end_before, put_by, rise_by}

-- from the first to the second
abbrev pub Pair : Type 0
Pair = Endpoint × Endpoint

abbrev pub same_pair : Pair → Pair → Bool
same_pair p q = same_end p.0 q.0 && same_end p.1 q.1

abbrev pub is_pair_before : Pair → Pair → Bool
is_pair_before p q = is_end_before p.0 q.0 || (same_end p.0 q.0 && is_end_before p.1 q.1)

abbrev pub is_pair_among : List Pair → Pair → Bool
is_pair_among ps p = list_any (same_pair p) ps

abbrev pub pairs_rise : List Pair → Bool
pairs_rise = rise_by is_pair_before

-- with one pair more, in its place, where it isn't there
abbrev pub with_pair : Pair → List Pair → List Pair
with_pair = put_by same_pair is_pair_before

abbrev pub without_pair : Pair → List Pair → List Pair
without_pair p ps = filter (λ q. not (same_pair p q)) ps
