use Rattle.std.proofs.Common.{◌≡◌, ◌<◌, ◌+◌, ◌++◌, List, [], sym, ap, ◌∙◌, arith}
use Rattle.std.proofs.lemmas.List.{append-nil}
use Rattle.std.specs.Arc.{arc_value}
use Rattle.std.specs.List.Sorted.{IsStrictlySortedBy}
use Rattle.std.specs.Map.{keys_of, remove_entry}
use Rattle.std.specs.BTreeMap.{is_at}
use Rattle.dg_pmap.specs.Shape.{pairs_of}
use Rattle.dg_pmap.proofs.Lists.{beside, low_alone, high_alone}
use Rattle.dg_pmap.proofs.Shapes.{fork_of, split_of}
use Rattle.dg_pmap.proofs.Splits.{sorted-low, sorted-high, remove_entry-low, remove_entry-high}
use Rattle.dg_pmap.proofs.tree.Tree.+without.Goals as goal

pub without-requires : goal.without-requires
without-requires g t c κs within =
    let f = fork_of c.self.inside.height c.self.inside.body c.args.self.now c.in-Fork.low c.in-Fork.split c.in-Fork.high c.in-Fork.is c.self.invariant.1 c.self.view_is in
    let s = split_of c.self.inside.height c.self.inside.body c.args.self.now c.in-Fork.low c.in-Fork.split c.in-Fork.high c.in-Fork.is c.self.invariant.1 c.self.view_is in
    let lower : c.deref.result.now.1 < c.args.self.now.1 = rw c.deref.ensures (omega (arith, f.tall)) in
    (omega arith, (within.0, (within.1, rw c.deref.ensures (sorted-low g.K.Ord.cmp _ _ _ _ s c.requires))))

pub without-requires-else-is_below : goal.without-requires-else-is_below
without-requires-else-is_below g t c κs within =
    let f = fork_of c.self.inside.height c.self.inside.body c.args.self.now c.in-Fork.low c.in-Fork.split c.in-Fork.high c.in-Fork.is c.self.invariant.1 c.self.view_is in
    let s = split_of c.self.inside.height c.self.inside.body c.args.self.now c.in-Fork.low c.in-Fork.split c.in-Fork.high c.in-Fork.is c.self.invariant.1 c.self.view_is in
    let lower : c.deref-else-is_below.result.now.1 < c.args.self.now.1 = rw c.deref-else-is_below.ensures (omega (arith, f.tall)) in
    (omega arith, (within.0, (within.1, rw c.deref-else-is_below.ensures (sorted-high g.K.Ord.cmp _ _ _ _ s c.requires))))

pub returns-in_ok-try_clone-in-None-clause-pairs : goal.returns-in_ok-try_clone-in-None-clause-pairs
returns-in_ok-try_clone-in-None-clause-pairs g t c =
    let s = split_of c.self.inside.height c.self.inside.body c.args.self.now c.in-Fork.low c.in-Fork.split c.in-Fork.high c.in-Fork.is c.self.invariant.1 c.self.view_is in
    high_alone _ _ _ _ _ (ap (λ v. v.0) c.in_ok-try_clone-in-None.ensures) (sym (ap pairs_of c.in-None.is)) (rw c.deref.ensures at c.in_ok-without-in-Fork.ensures.pairs)
    (remove_entry-low g.K.Ord.cmp g.met.K.Ord.total c.args.key.now _ _ _ _ s c.requires (sym c.if-is_below.ensures))

pub returns-in_ok-joined-in-Some-clause-pairs : goal.returns-in_ok-joined-in-Some-clause-pairs
returns-in_ok-joined-in-Some-clause-pairs g t c =
    let s = split_of c.self.inside.height c.self.inside.body c.args.self.now c.in-Fork.low c.in-Fork.split c.in-Fork.high c.in-Fork.is c.self.invariant.1 c.self.view_is in
    beside _ _ _ _ _ _ c.in_ok-joined-in-Some.ensures.pairs (sym (ap pairs_of c.in-Some.is) ∙ rw c.deref.ensures at c.in_ok-without-in-Fork.ensures.pairs) (ap (λ v. v.0) c.in_ok-try_clone-in-Some.ensures)
    (remove_entry-low g.K.Ord.cmp g.met.K.Ord.total c.args.key.now _ _ _ _ s c.requires (sym c.if-is_below.ensures))

pub returns-in_ok-try_clone-in-None-2-clause-pairs : goal.returns-in_ok-try_clone-in-None-2-clause-pairs
returns-in_ok-try_clone-in-None-2-clause-pairs g t c =
    let s = split_of c.self.inside.height c.self.inside.body c.args.self.now c.in-Fork.low c.in-Fork.split c.in-Fork.high c.in-Fork.is c.self.invariant.1 c.self.view_is in
    low_alone _ _ _ _ _ (ap (λ v. v.0) c.in_ok-try_clone-in-None-2.ensures) (sym (ap pairs_of c.in-None-2.is)) (rw c.deref-else-is_below.ensures at c.in_ok-without-in-Fork-2.ensures.pairs)
    (remove_entry-high g.K.Ord.cmp g.met.K.Ord.total c.args.key.now _ _ _ _ s c.requires (sym c.if-is_below.ensures))

pub returns-in_ok-joined-in-Some-2-clause-pairs : goal.returns-in_ok-joined-in-Some-2-clause-pairs
returns-in_ok-joined-in-Some-2-clause-pairs g t c =
    let s = split_of c.self.inside.height c.self.inside.body c.args.self.now c.in-Fork.low c.in-Fork.split c.in-Fork.high c.in-Fork.is c.self.invariant.1 c.self.view_is in
    beside _ _ _ _ _ _ c.in_ok-joined-in-Some-2.ensures.pairs (ap (λ v. v.0) c.in_ok-try_clone-in-Some-2.ensures) (sym (ap pairs_of c.in-Some-2.is) ∙ rw c.deref-else-is_below.ensures at c.in_ok-without-in-Fork-2.ensures.pairs)
    (remove_entry-high g.K.Ord.cmp g.met.K.Ord.total c.args.key.now _ _ _ _ s c.requires (sym c.if-is_below.ensures))
