use Rattle.std.proofs.Common.{◌≡◌, ◌<◌, ◌+◌, ◌++◌, sym, ap, ◌∙◌, arith}
use Rattle.std.specs.Arc.{arc_value}
use Rattle.std.specs.List.Sorted.{IsStrictlySortedBy}
use Rattle.std.specs.Map.{keys_of}
use Rattle.dg_pmap.proofs.Lists.{beside}
use Rattle.dg_pmap.proofs.Shapes.{fork_of, split_of}
use Rattle.dg_pmap.proofs.Splits.{sorted-low, sorted-high, insert_entry-low, insert_entry-high}
use Rattle.dg_pmap.proofs.tree.Tree.+with.Goals as goal

pub with-requires : goal.with-requires
with-requires g t c κs within =
    let f = fork_of c.self.inside.height c.self.inside.body c.args.self.now c.in-Fork.low c.in-Fork.split c.in-Fork.high c.in-Fork.is c.self.invariant.1 c.self.view_is in
    let s = split_of c.self.inside.height c.self.inside.body c.args.self.now c.in-Fork.low c.in-Fork.split c.in-Fork.high c.in-Fork.is c.self.invariant.1 c.self.view_is in
    let lower : c.deref.result.now.1 < c.args.self.now.1 = rw c.deref.ensures (omega (arith, f.tall)) in
    (omega arith, (within.0, (within.1, rw c.deref.ensures (sorted-low g.K.Ord.cmp _ _ _ _ s c.requires))))

pub with-requires-else-is_below : goal.with-requires-else-is_below
with-requires-else-is_below g t c κs within =
    let f = fork_of c.self.inside.height c.self.inside.body c.args.self.now c.in-Fork.low c.in-Fork.split c.in-Fork.high c.in-Fork.is c.self.invariant.1 c.self.view_is in
    let s = split_of c.self.inside.height c.self.inside.body c.args.self.now c.in-Fork.low c.in-Fork.split c.in-Fork.high c.in-Fork.is c.self.invariant.1 c.self.view_is in
    let lower : c.deref-else-is_below.result.now.1 < c.args.self.now.1 = rw c.deref-else-is_below.ensures (omega (arith, f.tall)) in
    (omega arith, (within.0, (within.1, rw c.deref-else-is_below.ensures (sorted-high g.K.Ord.cmp _ _ _ _ s c.requires))))

pub returns-in_ok-whole-in-Fork-clause-pairs : goal.returns-in_ok-whole-in-Fork-clause-pairs
returns-in_ok-whole-in-Fork-clause-pairs g t c =
    let s = split_of c.self.inside.height c.self.inside.body c.args.self.now c.in-Fork.low c.in-Fork.split c.in-Fork.high c.in-Fork.is c.self.invariant.1 c.self.view_is in
    beside _ _ _ _ _ _ c.in_ok-whole-in-Fork.ensures.pairs (rw c.deref.ensures at c.in_ok-low-in-Fork.ensures.pairs) (ap (λ v. v.0) c.in_ok-try_clone-in-Fork.ensures)
    (insert_entry-low g.K.Ord.cmp c.args.key c.args.value _ _ _ _ s (sym c.if-is_below.ensures))

pub returns-in_ok-whole-in-Fork-2-clause-pairs : goal.returns-in_ok-whole-in-Fork-2-clause-pairs
returns-in_ok-whole-in-Fork-2-clause-pairs g t c =
    let s = split_of c.self.inside.height c.self.inside.body c.args.self.now c.in-Fork.low c.in-Fork.split c.in-Fork.high c.in-Fork.is c.self.invariant.1 c.self.view_is in
    beside _ _ _ _ _ _ c.in_ok-whole-in-Fork-2.ensures.pairs (ap (λ v. v.0) c.in_ok-try_clone-in-Fork-2.ensures) (rw c.deref-else-is_below.ensures at c.in_ok-high-in-Fork.ensures.pairs)
    (insert_entry-high g.K.Ord.cmp g.met.K.Ord.total c.args.key c.args.value _ _ _ _ s c.requires (sym c.if-is_below.ensures))
