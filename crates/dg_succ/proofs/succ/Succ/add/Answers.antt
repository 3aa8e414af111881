use Rattle.std.proofs.Common.{List, ap, sym, subst, ◌∙◌}
use Rattle.std.specs.List.Sorted.{IsStrictlySortedBy}
use Rattle.std.specs.Map.{keys_of}
use Rattle.dg_laws.proofs.Orders.{rise-from_sorted}
use Rattle.dg_pmap.proofs.Sorted.{sorted-insert_entry}
use Rattle.dg_succ.specs.Pairs.{Pair, with_pair, pairs_rise}
use Rattle.dg_succ.proofs.PairOrder.{pair_cmp, pairs_compare, pairs_rank}
use Rattle.dg_succ.proofs.PairKeys.{keys-insert_entry, put_by-there}
use Rattle.dg_succ.proofs.succ.Succ.add.Goals as goal

pub returns-then-has-clause-ok : goal.returns-then-has-clause-ok
returns-then-has-clause-ok c =
    sym (put_by-there pairs_rank (c.args.from, c.args.to) c.args.self.now
    (ap pairs_rise (sym c.self.view_is) ∙ rise-from_sorted pairs_rank pairs_compare (keys_of c.self.inside.pairs) c.self.invariant)
    (sym c.has.ensures ∙ c.if-has.true))

pub invariant_of-self-2 : goal.invariant_of-self-2
invariant_of-self-2 c =
    let P : List (Pair × Unit {0}) → Type 0 = λ l. IsStrictlySortedBy pair_cmp (keys_of l) in
    subst P (sym c.in_ok-insert.ensures.ok) (sorted-insert_entry pairs_compare.total (c.args.from, c.args.to) tt c.self.inside.pairs c.self.invariant)

pub returns-clause-ok : goal.returns-clause-ok
returns-clause-ok c =
    ap keys_of c.in_ok-insert.ensures.ok
    ∙ keys-insert_entry pairs_compare (c.args.from, c.args.to) tt c.self.inside.pairs
    ∙ ap (with_pair (c.args.from, c.args.to)) c.self.view_is
