use Rattle.std.proofs.Common.{◌≡◌, ◌<◌, ◌+◌, ◌++◌, length, sym, ap, ◌∙◌, arith, length-append}
use Rattle.dg_pmap.specs.Places.{count_below}
use Rattle.dg_pmap.specs.Shape.{pairs_in}
use Rattle.std.specs.Arc.{arc_value}
use Rattle.std.specs.List.Sorted.{IsStrictlySortedBy}
use Rattle.std.specs.Map.{keys_of}
use Rattle.dg_pmap.proofs.Shapes.{fork_of, split_of}
use Rattle.dg_pmap.proofs.Splits.{sorted-low, sorted-high, count_below-low, count_below-high}
use Rattle.dg_pmap.proofs.tree.Tree.+position.Goals as goal

pub position-requires : goal.position-requires
position-requires g t c κs within =
    let f = fork_of c.self.inside.height c.self.inside.body c.args.self.now c.in-Fork.low c.in-Fork.split c.in-Fork.high c.in-Fork.is c.self.invariant.1 c.self.view_is in
    let s = split_of c.self.inside.height c.self.inside.body c.args.self.now c.in-Fork.low c.in-Fork.split c.in-Fork.high c.in-Fork.is c.self.invariant.1 c.self.view_is in
    let lower : c.deref-then-is_below.result.now.1 < c.args.self.now.1 = rw c.deref-then-is_below.ensures (omega (arith, f.tall)) in
    (omega arith, (within.0, (within.1, rw c.deref-then-is_below.ensures (sorted-low g.K.Ord.cmp _ _ _ _ s c.requires))))

pub position-requires-else-is_below : goal.position-requires-else-is_below
position-requires-else-is_below g t c κs within =
    let f = fork_of c.self.inside.height c.self.inside.body c.args.self.now c.in-Fork.low c.in-Fork.split c.in-Fork.high c.in-Fork.is c.self.invariant.1 c.self.view_is in
    let s = split_of c.self.inside.height c.self.inside.body c.args.self.now c.in-Fork.low c.in-Fork.split c.in-Fork.high c.in-Fork.is c.self.invariant.1 c.self.view_is in
    let lower : c.deref-high.result.now.1 < c.args.self.now.1 = rw c.deref-high.ensures (omega (arith, f.tall)) in
    (omega arith, (within.0, (within.1, rw c.deref-high.ensures (sorted-high g.K.Ord.cmp _ _ _ _ s c.requires))))

pub returns-then-is_below-clause-value : goal.returns-then-is_below-clause-value
returns-then-is_below-clause-value g t c =
    let s = split_of c.self.inside.height c.self.inside.body c.args.self.now c.in-Fork.low c.in-Fork.split c.in-Fork.high c.in-Fork.is c.self.invariant.1 c.self.view_is in
    (rw c.deref-then-is_below.ensures at c.position.ensures.value) ∙ sym (count_below-low g.K.Ord.cmp c.args.key.now _ _ _ _ s (sym c.if-is_below.ensures))

pub returns-else-is_below-clause-value : goal.returns-else-is_below-clause-value
returns-else-is_below-clause-value g t c =
    let s = split_of c.self.inside.height c.self.inside.body c.args.self.now c.in-Fork.low c.in-Fork.split c.in-Fork.high c.in-Fork.is c.self.invariant.1 c.self.view_is in
    let whole = count_below-high g.K.Ord.cmp g.met.K.Ord.total c.args.key.now _ _ _ _ s c.requires (sym c.if-is_below.ensures) in
    let high : c.position-else-is_below.result ≡ count_below g.K.Ord.cmp c.args.key.now (arc_value c.in-Fork.high).0 = rw c.deref-high.ensures at c.position-else-is_below.ensures.value in
    let len : c.len.result ≡ length (arc_value c.in-Fork.high).0 = rw c.deref-high.ensures at c.len.ensures in
    let all : length (pairs_in c.self.inside.body) ≡ length ((arc_value c.in-Fork.low).0 ++ (arc_value c.in-Fork.high).0) = ap (λ b. length (pairs_in b)) c.in-Fork.is in
    omega (arith, c.self.invariant.0, length-append (arc_value c.in-Fork.low).0 (arc_value c.in-Fork.high).0)
