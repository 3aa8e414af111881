use Rattle.std.proofs.Common.{◌≡◌, ◌+◌, ◌-◌, ◌<◌, ◌≤◌, ◌^◌, ◌++◌, List, length, sym, ap, ◌∙◌, subst, refl, ⊎_elim, arith, length-append}
use Rattle.std.specs.Arc.{arc_value}
use Rattle.std.specs.List.Sorted.{IsStrictlySortedBy}
use Rattle.std.specs.Map.{keys_of}
use Rattle.dg_pmap.specs.Firsts.{first_key_of}
use Rattle.dg_pmap.specs.Shape.{pairs_in}
use Rattle.dg_pmap.proofs.Shapes.{fork_of, split_of, fork_in, size_in, chunk_in, fork_with_low, fork_with_high, filled_fork}
use Rattle.dg_pmap.proofs.Splits.{sorted-low, sorted-high}
use Rattle.dg_pmap.proofs.Puts.{places-low, places-high, length-places, first_key-places}
use Rattle.dg_pmap.proofs.+put.Goals as goal

pub edit::put_below-put-requires : goal.edit::put_below-put-requires
edit::put_below-put-requires g t c κs within =
    let e : c.in_ok-tree.tree.now ≡ arc_value c.args.tree.now = ⊎_elim (λ h. h) (λ h. h) c.in_ok-tree.ensures.value in
    let height = ap (λ v. v.1) e in
    let size = ap (λ v. length v.0) e in
    (omega arith, (within.0, (within.1, (rw e c.requires.sorted, omega (arith, c.requires.room)))))

pub tree::Tree::put-put-requires : goal.tree::Tree::put-put-requires
tree::Tree::put-put-requires g t c =
    let e : c.in-Leaf.entries.items ≡ c.args.self.now.0 = sym (ap pairs_in c.in-Leaf.is) ∙ ap (λ v. v.0) c.self.view_is in
    rw e c.requires.sorted

pub tree::Tree::put-invariant_of-self : goal.tree::Tree::put-invariant_of-self
tree::Tree::put-invariant_of-self g t c =
    let chunk = chunk_in c.self.inside.height c.self.inside.body c.in-Leaf.entries c.in-Leaf.is c.self.invariant.1 in (
      c.self.invariant.0 ∙ ap (λ b. length (pairs_in b)) c.in-Leaf.is ∙ ap length (sym c.in_err-done-in-Leaf.ensures.puts),
      rw c.in_err-done-in-Leaf.ensures.puts chunk,
    )

pub tree::Tree::put-invariant_of-self-in-Leaf : goal.tree::Tree::put-invariant_of-self-in-Leaf
tree::Tree::put-invariant_of-self-in-Leaf g t c =
    let chunk = chunk_in c.self.inside.height c.self.inside.body c.in-Leaf.entries c.in-Leaf.is c.self.invariant.1 in (
      omega (arith, c.len-len.ensures, c.put.new.entries.ok.0),
      record {
        flat = chunk.flat;
        some = omega (arith, chunk.some, c.put.ensures.least);
        few = c.put.ensures.most chunk.few;
      },
    )

pub tree::Tree::put-overflow_sub-rest : goal.tree::Tree::put-overflow_sub-rest
tree::Tree::put-overflow_sub-rest g t c =
    let len : c.len.result ≡ length (arc_value c.in-Fork.low).0 = rw c.deref.ensures at c.len.ensures in
    omega (arith, size_in c.self.inside.size c.self.inside.body c.in-Fork.low c.in-Fork.split c.in-Fork.high c.in-Fork.is c.self.invariant.0)

pub tree::Tree::put-put_below-requires : goal.tree::Tree::put-put_below-requires
tree::Tree::put-put_below-requires g t c κs within =
    let f = fork_of c.self.inside.height c.self.inside.body c.args.self.now c.in-Fork.low c.in-Fork.split c.in-Fork.high c.in-Fork.is c.self.invariant.1 c.self.view_is in
    let s = split_of c.self.inside.height c.self.inside.body c.args.self.now c.in-Fork.low c.in-Fork.split c.in-Fork.high c.in-Fork.is c.self.invariant.1 c.self.view_is in (
      omega (arith, f.tall),
      (
        within.0,
        (
          within.1,
          (
            sorted-low g.K.Ord.cmp _ _ _ _ s c.requires.sorted,
            omega (arith, c.requires.room, ap length s.is, length-append (arc_value c.in-Fork.low).0 (arc_value c.in-Fork.high).0),
          ),
        ),
      ),
    )

pub tree::Tree::put-invariant_of-self-in_err-len-in-Fork : goal.tree::Tree::put-invariant_of-self-in_err-len-in-Fork
tree::Tree::put-invariant_of-self-in_err-len-in-Fork g t c =
    let f = fork_in c.self.inside.height c.self.inside.body c.in-Fork.low c.in-Fork.split c.in-Fork.high c.in-Fork.is c.self.invariant.1 in (
      c.self.invariant.0 ∙ ap (λ b. length (pairs_in b)) c.in-Fork.is ∙ ap (λ l. length (l ++ (arc_value c.in-Fork.high).0)) (sym c.in_err-len-in-Fork.ensures.puts),
      fork_with_low _ _ _ _ _ f c.put_below.ensures.height (c.put_below.ensures.filled f.low_filled),
    )

pub tree::Tree::put-overflow_add-size : goal.tree::Tree::put-overflow_add-size
tree::Tree::put-overflow_add-size g t c =
    let len : c.len.result ≡ length (arc_value c.in-Fork.low).0 = rw c.deref.ensures at c.len.ensures in
    let size = size_in c.self.inside.size c.self.inside.body c.in-Fork.low c.in-Fork.split c.in-Fork.high c.in-Fork.is c.self.invariant.0 in
    let more = length-places g.K.Ord.cmp c.args.key c.args.value _ _ _ c.in_ok-len-in-Fork.ensures.puts.1 in
    let s = split_of c.self.inside.height c.self.inside.body c.args.self.now c.in-Fork.low c.in-Fork.split c.in-Fork.high c.in-Fork.is c.self.invariant.1 c.self.view_is in
    omega (arith, c.requires.room, c.in_ok-len-in-Fork.ensures.puts.0, ap length s.is, length-append (arc_value c.in-Fork.low).0 (arc_value c.in-Fork.high).0)

pub tree::Tree::put-invariant_of-self-then-is_below : goal.tree::Tree::put-invariant_of-self-then-is_below
tree::Tree::put-invariant_of-self-then-is_below g t c =
    let len : c.len.result ≡ length (arc_value c.in-Fork.low).0 = rw c.deref.ensures at c.len.ensures in
    let size = size_in c.self.inside.size c.self.inside.body c.in-Fork.low c.in-Fork.split c.in-Fork.high c.in-Fork.is c.self.invariant.0 in
    let f = fork_in c.self.inside.height c.self.inside.body c.in-Fork.low c.in-Fork.split c.in-Fork.high c.in-Fork.is c.self.invariant.1 in (
      omega (arith, c.in_ok-len-in-Fork.ensures.puts.0, length-append (arc_value c.put_below.new.tree).0 (arc_value c.in-Fork.high).0),
      fork_with_low _ _ _ _ _ f c.put_below.ensures.height (c.put_below.ensures.filled f.low_filled),
    )

pub tree::Tree::put-returns-in_ok-len-in-Fork-clause-puts : goal.tree::Tree::put-returns-in_ok-len-in-Fork-clause-puts
tree::Tree::put-returns-in_ok-len-in-Fork-clause-puts g t c =
    let len : c.len.result ≡ length (arc_value c.in-Fork.low).0 = rw c.deref.ensures at c.len.ensures in
    let size = size_in c.self.inside.size c.self.inside.body c.in-Fork.low c.in-Fork.split c.in-Fork.high c.in-Fork.is c.self.invariant.0 in
    let s = split_of c.self.inside.height c.self.inside.body c.args.self.now c.in-Fork.low c.in-Fork.split c.in-Fork.high c.in-Fork.is c.self.invariant.1 c.self.view_is in (
      omega (arith, c.in_ok-len-in-Fork.ensures.puts.0, length-append (arc_value c.put_below.new.tree).0 (arc_value c.in-Fork.high).0),
      places-low g.K.Ord.cmp g.met.K.Ord.total c.args.key c.args.value _ _ _ _ s c.requires.sorted (sym c.if-is_below.ensures) _ _ c.in_ok-len-in-Fork.ensures.puts.1,
    )

pub tree::Tree::put-overflow_sub-rest-else-is_below : goal.tree::Tree::put-overflow_sub-rest-else-is_below
tree::Tree::put-overflow_sub-rest-else-is_below g t c =
    let len : c.len-else-is_below.result ≡ length (arc_value c.in-Fork.high).0 = rw c.deref-else-is_below.ensures at c.len-else-is_below.ensures in
    omega (arith, size_in c.self.inside.size c.self.inside.body c.in-Fork.low c.in-Fork.split c.in-Fork.high c.in-Fork.is c.self.invariant.0)

pub tree::Tree::put-put_below-requires-else-is_below : goal.tree::Tree::put-put_below-requires-else-is_below
tree::Tree::put-put_below-requires-else-is_below g t c κs within =
    let f = fork_of c.self.inside.height c.self.inside.body c.args.self.now c.in-Fork.low c.in-Fork.split c.in-Fork.high c.in-Fork.is c.self.invariant.1 c.self.view_is in
    let s = split_of c.self.inside.height c.self.inside.body c.args.self.now c.in-Fork.low c.in-Fork.split c.in-Fork.high c.in-Fork.is c.self.invariant.1 c.self.view_is in (
      omega (arith, f.tall),
      (
        within.0,
        (
          within.1,
          (
            sorted-high g.K.Ord.cmp _ _ _ _ s c.requires.sorted,
            omega (arith, c.requires.room, ap length s.is, length-append (arc_value c.in-Fork.low).0 (arc_value c.in-Fork.high).0),
          ),
        ),
      ),
    )

pub tree::Tree::put-invariant_of-self-in_err-len-in-Fork-2 : goal.tree::Tree::put-invariant_of-self-in_err-len-in-Fork-2
tree::Tree::put-invariant_of-self-in_err-len-in-Fork-2 g t c =
    let f = fork_in c.self.inside.height c.self.inside.body c.in-Fork.low c.in-Fork.split c.in-Fork.high c.in-Fork.is c.self.invariant.1 in (
      c.self.invariant.0 ∙ ap (λ b. length (pairs_in b)) c.in-Fork.is ∙ ap (λ l. length ((arc_value c.in-Fork.low).0 ++ l)) (sym c.in_err-len-in-Fork-2.ensures.puts),
      fork_with_high _ _ _ _ _ _ f c.put_below-else-is_below.ensures.height (c.put_below-else-is_below.ensures.filled f.high_filled) (rw c.in_err-len-in-Fork-2.ensures.puts f.splits),
    )

pub tree::Tree::put-overflow_add-size-else-is_below : goal.tree::Tree::put-overflow_add-size-else-is_below
tree::Tree::put-overflow_add-size-else-is_below g t c =
    let len : c.len-else-is_below.result ≡ length (arc_value c.in-Fork.high).0 = rw c.deref-else-is_below.ensures at c.len-else-is_below.ensures in
    let size = size_in c.self.inside.size c.self.inside.body c.in-Fork.low c.in-Fork.split c.in-Fork.high c.in-Fork.is c.self.invariant.0 in
    let more = length-places g.K.Ord.cmp c.args.key c.args.value _ _ _ c.in_ok-len-in-Fork-2.ensures.puts.1 in
    let s = split_of c.self.inside.height c.self.inside.body c.args.self.now c.in-Fork.low c.in-Fork.split c.in-Fork.high c.in-Fork.is c.self.invariant.1 c.self.view_is in
    omega (arith, c.requires.room, c.in_ok-len-in-Fork-2.ensures.puts.0, ap length s.is, length-append (arc_value c.in-Fork.low).0 (arc_value c.in-Fork.high).0)

pub tree::Tree::put-invariant_of-self-else-is_below : goal.tree::Tree::put-invariant_of-self-else-is_below
tree::Tree::put-invariant_of-self-else-is_below g t c =
    let len : c.len-else-is_below.result ≡ length (arc_value c.in-Fork.high).0 = rw c.deref-else-is_below.ensures at c.len-else-is_below.ensures in
    let size = size_in c.self.inside.size c.self.inside.body c.in-Fork.low c.in-Fork.split c.in-Fork.high c.in-Fork.is c.self.invariant.0 in
    let f = fork_in c.self.inside.height c.self.inside.body c.in-Fork.low c.in-Fork.split c.in-Fork.high c.in-Fork.is c.self.invariant.1 in (
      omega (arith, c.in_ok-len-in-Fork-2.ensures.puts.0, length-append (arc_value c.in-Fork.low).0 (arc_value c.put_below-else-is_below.new.tree).0),
      fork_with_high _ _ _ _ _ _ f c.put_below-else-is_below.ensures.height (c.put_below-else-is_below.ensures.filled f.high_filled)
          (first_key-places g.K.Ord.cmp c.args.key c.args.value c.in-Fork.split _ _ _ f.splits (sym c.if-is_below.ensures) c.in_ok-len-in-Fork-2.ensures.puts.1),
    )

pub tree::Tree::put-returns-in_ok-len-in-Fork-2-clause-puts : goal.tree::Tree::put-returns-in_ok-len-in-Fork-2-clause-puts
tree::Tree::put-returns-in_ok-len-in-Fork-2-clause-puts g t c =
    let len : c.len-else-is_below.result ≡ length (arc_value c.in-Fork.high).0 = rw c.deref-else-is_below.ensures at c.len-else-is_below.ensures in
    let size = size_in c.self.inside.size c.self.inside.body c.in-Fork.low c.in-Fork.split c.in-Fork.high c.in-Fork.is c.self.invariant.0 in
    let s = split_of c.self.inside.height c.self.inside.body c.args.self.now c.in-Fork.low c.in-Fork.split c.in-Fork.high c.in-Fork.is c.self.invariant.1 c.self.view_is in (
      omega (arith, c.in_ok-len-in-Fork-2.ensures.puts.0, length-append (arc_value c.in-Fork.low).0 (arc_value c.put_below-else-is_below.new.tree).0),
      places-high g.K.Ord.cmp g.met.K.Ord.total c.args.key c.args.value _ _ _ _ s c.requires.sorted (sym c.if-is_below.ensures) _ _ c.in_ok-len-in-Fork-2.ensures.puts.1,
    )

pub tree::Tree::put-returns-in_err-len-in-Fork-clause-filled : goal.tree::Tree::put-returns-in_err-len-in-Fork-clause-filled
tree::Tree::put-returns-in_err-len-in-Fork-clause-filled g t c =
    let f = fork_in c.self.inside.height c.self.inside.body c.in-Fork.low c.in-Fork.split c.in-Fork.high c.in-Fork.is c.self.invariant.1 in
    filled_fork _ _ _ _ (fork_with_low _ _ _ _ _ f c.put_below.ensures.height (c.put_below.ensures.filled f.low_filled))

pub tree::Tree::put-returns-in_ok-len-in-Fork-clause-filled : goal.tree::Tree::put-returns-in_ok-len-in-Fork-clause-filled
tree::Tree::put-returns-in_ok-len-in-Fork-clause-filled g t c =
    let f = fork_in c.self.inside.height c.self.inside.body c.in-Fork.low c.in-Fork.split c.in-Fork.high c.in-Fork.is c.self.invariant.1 in
    filled_fork _ _ _ _ (fork_with_low _ _ _ _ _ f c.put_below.ensures.height (c.put_below.ensures.filled f.low_filled))

pub tree::Tree::put-returns-in_err-len-in-Fork-2-clause-filled : goal.tree::Tree::put-returns-in_err-len-in-Fork-2-clause-filled
tree::Tree::put-returns-in_err-len-in-Fork-2-clause-filled g t c =
    let f = fork_in c.self.inside.height c.self.inside.body c.in-Fork.low c.in-Fork.split c.in-Fork.high c.in-Fork.is c.self.invariant.1 in
    filled_fork _ _ _ _ (fork_with_high _ _ _ c.in-Fork.split _ _ f c.put_below-else-is_below.ensures.height (c.put_below-else-is_below.ensures.filled f.high_filled) (ap first_key_of c.in_err-len-in-Fork-2.ensures.puts ∙ f.splits))

pub tree::Tree::put-returns-in_ok-len-in-Fork-2-clause-filled : goal.tree::Tree::put-returns-in_ok-len-in-Fork-2-clause-filled
tree::Tree::put-returns-in_ok-len-in-Fork-2-clause-filled g t c =
    let f = fork_in c.self.inside.height c.self.inside.body c.in-Fork.low c.in-Fork.split c.in-Fork.high c.in-Fork.is c.self.invariant.1 in
    filled_fork _ _ _ _ (fork_with_high _ _ _ _ _ _ f c.put_below-else-is_below.ensures.height (c.put_below-else-is_below.ensures.filled f.high_filled)
    (first_key-places g.K.Ord.cmp c.args.key c.args.value c.in-Fork.split _ _ _ f.splits (sym c.if-is_below.ensures) c.in_ok-len-in-Fork-2.ensures.puts.1))
