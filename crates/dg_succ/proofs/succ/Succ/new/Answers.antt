use Rattle.std.proofs.Common.{List, [], sym, subst}
use Rattle.std.specs.List.Sorted.{IsStrictlySortedBy}
use Rattle.std.specs.Map.{keys_of}
use Rattle.dg_succ.specs.Pairs.{Pair}
use Rattle.dg_succ.proofs.PairOrder.{pair_cmp}
use Rattle.dg_succ.proofs.succ.Succ.new.Goals as goal

none_sorted : IsStrictlySortedBy pair_cmp []
unfolding IsStrictlySortedBy
none_sorted = tt

pub invariant_of-result : goal.invariant_of-result
invariant_of-result c =
    let P : List (Pair × Unit {0}) → Type 0 = λ l. IsStrictlySortedBy pair_cmp (keys_of l) in
    subst P (sym c.new.ensures) none_sorted
