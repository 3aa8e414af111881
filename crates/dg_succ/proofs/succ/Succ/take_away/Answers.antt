use Rattle.std.proofs.Common.{List, ap, sym, subst, ◌∙◌}
use Rattle.std.specs.BTreeMap.{is_at}
use Rattle.std.specs.List.Sorted.{IsStrictlySortedBy}
use Rattle.std.specs.Map.{keys_of}
use Rattle.dg_pmap.proofs.Sorted.{sorted-remove_entry}
use Rattle.dg_succ.specs.Pairs.{Pair, is_pair_among, without_pair}
use Rattle.dg_succ.proofs.PairOrder.{pair_cmp, pairs_compare}
use Rattle.dg_succ.proofs.PairKeys.{among-keys, keys-remove_entry}
use Rattle.dg_succ.proofs.succ.Succ.take_away.Goals as goal

pub invariant_of-self-2 : goal.invariant_of-self-2
invariant_of-self-2 c =
    let P : List (Pair × Unit {0}) → Type 0 = λ l. IsStrictlySortedBy pair_cmp (keys_of l) in
    subst P (sym c.in_ok-there.ensures.ok) (sorted-remove_entry pairs_compare.total (is_at (pair_cmp (c.args.from, c.args.to))) c.self.inside.pairs c.self.invariant)

pub returns-clause-ok : goal.returns-clause-ok
returns-clause-ok c =
    ap keys_of c.in_ok-there.ensures.ok
    ∙ keys-remove_entry pairs_compare (c.args.from, c.args.to) c.self.inside.pairs c.self.invariant
    ∙ ap (without_pair (c.args.from, c.args.to)) c.self.view_is

pub returns-clause-there : goal.returns-clause-there
returns-clause-there c =
    let pair : Pair = (c.args.from, c.args.to) in
    c.in_ok-there.ensures.there ∙ among-keys pairs_compare pair c.self.inside.pairs ∙ ap (λ ps. is_pair_among ps pair) c.self.view_is
