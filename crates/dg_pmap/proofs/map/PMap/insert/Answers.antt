use Rattle.std.proofs.Common.{◌≡◌, List, ap, sym, subst}
use Rattle.std.specs.List.Sorted.{IsStrictlySortedBy}
use Rattle.std.specs.Map.{keys_of}
use Rattle.dg_pmap.specs.Shape.{pairs_of}
use Rattle.dg_pmap.proofs.Sorted.{sorted-one, sorted-edit}
use Rattle.dg_pmap.proofs.map.PMap.insert.Goals as goal

pub invariant_of-self-in-None : goal.invariant_of-self-in-None
invariant_of-self-in-None g c =
    let P : List (g.row.K.Denot × g.row.V.Denot) → Type 0 = λ l. IsStrictlySortedBy g.K.Ord.cmp (keys_of l) in
    subst P (sym c.in_ok-first-in-None.ensures) (sorted-one g.K.Ord.cmp (c.args.key, c.args.value))

pub invariant_of-self-in-Some : goal.invariant_of-self-in-Some
invariant_of-self-in-Some g c =
    let P : List (g.row.K.Denot × g.row.V.Denot) → Type 0 = λ l. IsStrictlySortedBy g.K.Ord.cmp (keys_of l) in
    sorted-edit g.met.K.Ord.total c.args.key c.args.value c.insert.result _ _ c.insert.ensures.ok c.insert.ensures.err (subst P (ap pairs_of c.in-Some.is) c.self.invariant)
