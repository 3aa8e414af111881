use Rattle.std.proofs.Common.{◌≡◌, ◌<◌, sym, ap, ◌∙◌, arith}
use Rattle.std.specs.Arc.{arc_value}
use Rattle.std.specs.List.Sorted.{IsStrictlySortedBy}
use Rattle.std.specs.Map.{keys_of}
use Rattle.dg_pmap.proofs.Shapes.{fork_of, split_of}
use Rattle.dg_pmap.proofs.Splits.{sorted-low, sorted-high, lookup-low, lookup-high}
use Rattle.dg_pmap.proofs.tree.Tree.+get.Goals as goal

pub get-requires : goal.get-requires
get-requires g t c κs within =
    let f = fork_of c.self.inside.height c.self.inside.body c.args.self.now c.in-Fork.low c.in-Fork.split c.in-Fork.high c.in-Fork.is c.self.invariant.1 c.self.view_is in
    let s = split_of c.self.inside.height c.self.inside.body c.args.self.now c.in-Fork.low c.in-Fork.split c.in-Fork.high c.in-Fork.is c.self.invariant.1 c.self.view_is in
    let lower : c.deref-then-is_below.result.now.1 < c.args.self.now.1 = rw c.deref-then-is_below.ensures (omega (arith, f.tall)) in
    (omega arith, (within.0, (within.1, rw c.deref-then-is_below.ensures (sorted-low g.K.Ord.cmp _ _ _ _ s c.requires))))

pub get-requires-else-is_below : goal.get-requires-else-is_below
get-requires-else-is_below g t c κs within =
    let f = fork_of c.self.inside.height c.self.inside.body c.args.self.now c.in-Fork.low c.in-Fork.split c.in-Fork.high c.in-Fork.is c.self.invariant.1 c.self.view_is in
    let s = split_of c.self.inside.height c.self.inside.body c.args.self.now c.in-Fork.low c.in-Fork.split c.in-Fork.high c.in-Fork.is c.self.invariant.1 c.self.view_is in
    let lower : c.deref-else-is_below.result.now.1 < c.args.self.now.1 = rw c.deref-else-is_below.ensures (omega (arith, f.tall)) in
    (omega arith, (within.0, (within.1, rw c.deref-else-is_below.ensures (sorted-high g.K.Ord.cmp _ _ _ _ s c.requires))))

pub returns-then-is_below : goal.returns-then-is_below
returns-then-is_below g t c =
    let s = split_of c.self.inside.height c.self.inside.body c.args.self.now c.in-Fork.low c.in-Fork.split c.in-Fork.high c.in-Fork.is c.self.invariant.1 c.self.view_is in
    (rw c.deref-then-is_below.ensures at c.get.ensures) ∙ sym (lookup-low g.K.Ord.cmp g.met.K.Ord.total c.args.key.now _ _ _ _ s c.requires (sym c.if-is_below.ensures))

pub returns-else-is_below : goal.returns-else-is_below
returns-else-is_below g t c =
    let s = split_of c.self.inside.height c.self.inside.body c.args.self.now c.in-Fork.low c.in-Fork.split c.in-Fork.high c.in-Fork.is c.self.invariant.1 c.self.view_is in
    (rw c.deref-else-is_below.ensures at c.get-else-is_below.ensures) ∙ sym (lookup-high g.K.Ord.cmp g.met.K.Ord.total c.args.key.now _ _ _ _ s c.requires (sym c.if-is_below.ensures))
