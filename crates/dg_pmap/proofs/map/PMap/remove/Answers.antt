use Rattle.std.proofs.Common.{◌≡◌, List, ap, sym, ◌∙◌, subst}
use Rattle.std.specs.BTreeMap.{is_at}
use Rattle.std.specs.List.Sorted.{IsStrictlySortedBy}
use Rattle.std.specs.Map.{keys_of}
use Rattle.dg_pmap.specs.Shape.{pairs_of}
use Rattle.dg_pmap.proofs.Sorted.{sorted-remove_entry, remove_entry-absent}
use Rattle.dg_pmap.proofs.map.PMap.remove.Goals as goal

pub returns-then-not-contains_key-clause-ok : goal.returns-then-not-contains_key-clause-ok
returns-then-not-contains_key-clause-ok g c = sym (remove_entry-absent (is_at (g.K.Ord.cmp c.args.key.now)) c.args.self.now (sym c.if-not-contains_key.ensures))

pub invariant_of-self-2 : goal.invariant_of-self-2
invariant_of-self-2 g c =
    let P : List (g.row.K.Denot × g.row.V.Denot) → Type 0 = λ l. IsStrictlySortedBy g.K.Ord.cmp (keys_of l) in
    subst P (sym c.in_ok-remove.ensures.ok) (sorted-remove_entry g.met.K.Ord.total (is_at (g.K.Ord.cmp c.args.key.now)) _ c.self.invariant)
