use Rattle.std.proofs.Common.{◌≡◌, ◌+◌, ◌-◌, ◌<◌, ◌≤◌, ◌^◌, ◌++◌, List, Some, length, sym, ap, ◌∙◌, subst, refl, ⊎_elim, arith, length-append}
use Rattle.std.specs.Arc.{arc_value}
use Rattle.std.specs.BTreeMap.{is_at}
use Rattle.std.specs.List.Sorted.{IsStrictlySortedBy}
use Rattle.std.specs.Map.{keys_of}
use Rattle.dg_pmap.specs.Firsts.{first_key_of}
use Rattle.dg_pmap.specs.Shape.{pairs_in}
use Rattle.dg_pmap.proofs.Shapes.{fork_of, split_of, fork_in, size_in, chunk_in, fork_with_low, fork_with_high, filled_fork, filled_outside}
use Rattle.dg_pmap.proofs.Splits.{sorted-low, sorted-high, remove_entry-low, remove_entry-high, length-remove_entry-le}
use Rattle.dg_pmap.proofs.Takes.{takes-some, takes-none, first-low, first-high, split-first}
use Rattle.dg_pmap.proofs.+take.Goals as goal

pub take::take_below-take-requires : goal.take::take_below-take-requires
take::take_below-take-requires g t c κs within =
    let e : c.in_ok-tree.tree.now ≡ arc_value c.args.tree.now = ⊎_elim (λ h. h) (λ h. h) c.in_ok-tree.ensures.value in
    let height = ap (λ v. v.1) e in
    (omega arith, (within.0, (within.1, rw e c.requires)))

pub tree::Tree::take-take_from-len-requires : goal.tree::Tree::take-take_from-len-requires
tree::Tree::take-take_from-len-requires g t c =
    let chunk = chunk_in c.self.inside.height c.self.inside.body c.in-Leaf.entries c.in-Leaf.is c.self.invariant.1 in
    let size = c.self.invariant.0 ∙ ap (λ b. length (pairs_in b)) c.in-Leaf.is in
    let e : c.in-Leaf.entries.items ≡ c.args.self.now.0 = sym (ap pairs_in c.in-Leaf.is) ∙ ap (λ v. v.0) c.self.view_is in
    let many = c.is_sparse.ensures c.if-is_sparse.false chunk.flat in
    record { sorted = rw e c.requires; many = omega arith }

pub tree::Tree::take-invariant_of-self : goal.tree::Tree::take-invariant_of-self
tree::Tree::take-invariant_of-self g t c =
    let chunk = chunk_in c.self.inside.height c.self.inside.body c.in-Leaf.entries c.in-Leaf.is c.self.invariant.1 in
    (c.take_from-len.ensures.len, record { flat = chunk.flat; some = c.take_from-len.ensures.some; few = omega (arith, chunk.few, c.take_from-len.ensures.most) })

pub tree::Tree::take-overflow_sub-rest : goal.tree::Tree::take-overflow_sub-rest
tree::Tree::take-overflow_sub-rest g t c =
    let len : c.len.result ≡ length (arc_value c.in-Fork.low).0 = rw c.deref.ensures at c.len.ensures in
    let size = size_in c.self.inside.size c.self.inside.body c.in-Fork.low c.in-Fork.split c.in-Fork.high c.in-Fork.is c.self.invariant.0 in
    omega arith

pub tree::Tree::take-overflow_sub-rest-else-is_below : goal.tree::Tree::take-overflow_sub-rest-else-is_below
tree::Tree::take-overflow_sub-rest-else-is_below g t c =
    let len : c.len-else-is_below.result ≡ length (arc_value c.in-Fork.high).0 = rw c.deref-else-is_below.ensures at c.len-else-is_below.ensures in
    let size = size_in c.self.inside.size c.self.inside.body c.in-Fork.low c.in-Fork.split c.in-Fork.high c.in-Fork.is c.self.invariant.0 in
    omega arith

pub tree::Tree::take-take_below-requires : goal.tree::Tree::take-take_below-requires
tree::Tree::take-take_below-requires g t c κs within =
    let f = fork_of c.self.inside.height c.self.inside.body c.args.self.now c.in-Fork.low c.in-Fork.split c.in-Fork.high c.in-Fork.is c.self.invariant.1 c.self.view_is in
    let s = split_of c.self.inside.height c.self.inside.body c.args.self.now c.in-Fork.low c.in-Fork.split c.in-Fork.high c.in-Fork.is c.self.invariant.1 c.self.view_is in
    (omega (arith, f.tall), (within.0, (within.1, sorted-low g.K.Ord.cmp _ _ _ _ s c.requires)))

pub tree::Tree::take-take_below-requires-else-is_below : goal.tree::Tree::take-take_below-requires-else-is_below
tree::Tree::take-take_below-requires-else-is_below g t c κs within =
    let f = fork_of c.self.inside.height c.self.inside.body c.args.self.now c.in-Fork.low c.in-Fork.split c.in-Fork.high c.in-Fork.is c.self.invariant.1 c.self.view_is in
    let s = split_of c.self.inside.height c.self.inside.body c.args.self.now c.in-Fork.low c.in-Fork.split c.in-Fork.high c.in-Fork.is c.self.invariant.1 c.self.view_is in
    (omega (arith, f.tall), (within.0, (within.1, sorted-high g.K.Ord.cmp _ _ _ _ s c.requires)))

pub tree::Tree::take-invariant_of-self-in_err-len-in-Fork : goal.tree::Tree::take-invariant_of-self-in_err-len-in-Fork
tree::Tree::take-invariant_of-self-in_err-len-in-Fork g t c =
    let f = fork_in c.self.inside.height c.self.inside.body c.in-Fork.low c.in-Fork.split c.in-Fork.high c.in-Fork.is c.self.invariant.1 in
    let same = c.in_err-len-in-Fork.ensures.takes in (
      c.self.invariant.0 ∙ ap (λ b. length (pairs_in b)) c.in-Fork.is ∙ ap (λ l. length (l ++ (arc_value c.in-Fork.high).0)) (sym same),
      fork_with_low _ _ (arc_value c.take_below.new.tree) _ _ f c.take_below.ensures.height (c.take_below.ensures.filled f.low_filled),
    )

pub tree::Tree::take-invariant_of-self-in_err-len-in-Fork-2 : goal.tree::Tree::take-invariant_of-self-in_err-len-in-Fork-2
tree::Tree::take-invariant_of-self-in_err-len-in-Fork-2 g t c =
    let f = fork_in c.self.inside.height c.self.inside.body c.in-Fork.low c.in-Fork.split c.in-Fork.high c.in-Fork.is c.self.invariant.1 in
    let same = c.in_err-len-in-Fork-2.ensures.takes in (
      c.self.invariant.0 ∙ ap (λ b. length (pairs_in b)) c.in-Fork.is ∙ ap (λ l. length ((arc_value c.in-Fork.low).0 ++ l)) (sym same),
      fork_with_high _ _ _ c.in-Fork.split _ (arc_value c.take_below-else-is_below.new.tree) f c.take_below-else-is_below.ensures.height (c.take_below-else-is_below.ensures.filled f.high_filled) (ap first_key_of same ∙ f.splits),
    )

pub tree::Tree::take-returns-in_err-len-in-Fork-clause-filled : goal.tree::Tree::take-returns-in_err-len-in-Fork-clause-filled
tree::Tree::take-returns-in_err-len-in-Fork-clause-filled g t c =
    let f = fork_in c.self.inside.height c.self.inside.body c.in-Fork.low c.in-Fork.split c.in-Fork.high c.in-Fork.is c.self.invariant.1 in
    filled_fork _ _ _ _ (fork_with_low _ _ (arc_value c.take_below.new.tree) _ _ f c.take_below.ensures.height (c.take_below.ensures.filled f.low_filled))

pub tree::Tree::take-returns-in_err-len-in-Fork-2-clause-filled : goal.tree::Tree::take-returns-in_err-len-in-Fork-2-clause-filled
tree::Tree::take-returns-in_err-len-in-Fork-2-clause-filled g t c =
    let f = fork_in c.self.inside.height c.self.inside.body c.in-Fork.low c.in-Fork.split c.in-Fork.high c.in-Fork.is c.self.invariant.1 in
    let same = c.in_err-len-in-Fork-2.ensures.takes in
    filled_fork _ _ _ _ (fork_with_high _ _ _ c.in-Fork.split _ (arc_value c.take_below-else-is_below.new.tree) f c.take_below-else-is_below.ensures.height (c.take_below-else-is_below.ensures.filled f.high_filled) (ap first_key_of same ∙ f.splits))

pub tree::Tree::take-invariant_of-self-in_default : goal.tree::Tree::take-invariant_of-self-in_default
tree::Tree::take-invariant_of-self-in_default g t c =
    let f = fork_in c.self.inside.height c.self.inside.body c.in-Fork.low c.in-Fork.split c.in-Fork.high c.in-Fork.is c.self.invariant.1 in
    let same = takes-none g.K.Ord.cmp _ c.args.key.now _ _ c.in_default.is c.in_ok-len-in-Fork.ensures.takes in (
      c.self.invariant.0 ∙ ap (λ b. length (pairs_in b)) c.in-Fork.is ∙ ap (λ l. length (l ++ (arc_value c.in-Fork.high).0)) (sym same),
      fork_with_low _ _ (arc_value c.take_below.new.tree) _ _ f c.take_below.ensures.height (c.take_below.ensures.filled f.low_filled),
    )

pub tree::Tree::take-invariant_of-self-in_default-2 : goal.tree::Tree::take-invariant_of-self-in_default-2
tree::Tree::take-invariant_of-self-in_default-2 g t c =
    let f = fork_in c.self.inside.height c.self.inside.body c.in-Fork.low c.in-Fork.split c.in-Fork.high c.in-Fork.is c.self.invariant.1 in
    let same = takes-none g.K.Ord.cmp _ c.args.key.now _ _ c.in_default-2.is c.in_ok-len-in-Fork-2.ensures.takes in (
      c.self.invariant.0 ∙ ap (λ b. length (pairs_in b)) c.in-Fork.is ∙ ap (λ l. length ((arc_value c.in-Fork.low).0 ++ l)) (sym same),
      fork_with_high _ _ _ c.in-Fork.split _ (arc_value c.take_below-else-is_below.new.tree) f c.take_below-else-is_below.ensures.height (c.take_below-else-is_below.ensures.filled f.high_filled) (ap first_key_of same ∙ f.splits),
    )

pub tree::Tree::take-returns-in_default-clause-filled : goal.tree::Tree::take-returns-in_default-clause-filled
tree::Tree::take-returns-in_default-clause-filled g t c =
    let f = fork_in c.self.inside.height c.self.inside.body c.in-Fork.low c.in-Fork.split c.in-Fork.high c.in-Fork.is c.self.invariant.1 in
    filled_fork _ _ _ _ (fork_with_low _ _ (arc_value c.take_below.new.tree) _ _ f c.take_below.ensures.height (c.take_below.ensures.filled f.low_filled))

pub tree::Tree::take-returns-in_default-2-clause-filled : goal.tree::Tree::take-returns-in_default-2-clause-filled
tree::Tree::take-returns-in_default-2-clause-filled g t c =
    let f = fork_in c.self.inside.height c.self.inside.body c.in-Fork.low c.in-Fork.split c.in-Fork.high c.in-Fork.is c.self.invariant.1 in
    let same = takes-none g.K.Ord.cmp _ c.args.key.now _ _ c.in_default-2.is c.in_ok-len-in-Fork-2.ensures.takes in
    filled_fork _ _ _ _ (fork_with_high _ _ _ c.in-Fork.split _ (arc_value c.take_below-else-is_below.new.tree) f c.take_below-else-is_below.ensures.height (c.take_below-else-is_below.ensures.filled f.high_filled) (ap first_key_of same ∙ f.splits))

pub tree::Tree::take-returns-in_default-clause-takes : goal.tree::Tree::take-returns-in_default-clause-takes
tree::Tree::take-returns-in_default-clause-takes g t c =
    let s = split_of c.self.inside.height c.self.inside.body c.args.self.now c.in-Fork.low c.in-Fork.split c.in-Fork.high c.in-Fork.is c.self.invariant.1 c.self.view_is in
    let same = takes-none g.K.Ord.cmp _ c.args.key.now _ _ c.in_default.is c.in_ok-len-in-Fork.ensures.takes in
    ap (λ l. l ++ (arc_value c.in-Fork.high).0) same ∙ s.is

pub tree::Tree::take-returns-in_default-2-clause-takes : goal.tree::Tree::take-returns-in_default-2-clause-takes
tree::Tree::take-returns-in_default-2-clause-takes g t c =
    let s = split_of c.self.inside.height c.self.inside.body c.args.self.now c.in-Fork.low c.in-Fork.split c.in-Fork.high c.in-Fork.is c.self.invariant.1 c.self.view_is in
    let same = takes-none g.K.Ord.cmp _ c.args.key.now _ _ c.in_default-2.is c.in_ok-len-in-Fork-2.ensures.takes in
    ap (λ l. (arc_value c.in-Fork.low).0 ++ l) same ∙ s.is

pub tree::Tree::take-overflow_add-size : goal.tree::Tree::take-overflow_add-size
tree::Tree::take-overflow_add-size g t c =
    let len : c.len.result ≡ length (arc_value c.in-Fork.low).0 = rw c.deref.ensures at c.len.ensures in
    let size = size_in c.self.inside.size c.self.inside.body c.in-Fork.low c.in-Fork.split c.in-Fork.high c.in-Fork.is c.self.invariant.0 in
    let done = takes-some g.K.Ord.cmp _ c.args.key.now _ _ _ c.in-Some.is c.in_ok-len-in-Fork.ensures.takes in
    omega (arith, done.0, ap length done.1, length-remove_entry-le (is_at (g.K.Ord.cmp c.args.key.now)) (arc_value c.in-Fork.low).0)

pub tree::Tree::take-overflow_add-size-else-is_below : goal.tree::Tree::take-overflow_add-size-else-is_below
tree::Tree::take-overflow_add-size-else-is_below g t c =
    let len : c.len-else-is_below.result ≡ length (arc_value c.in-Fork.high).0 = rw c.deref-else-is_below.ensures at c.len-else-is_below.ensures in
    let size = size_in c.self.inside.size c.self.inside.body c.in-Fork.low c.in-Fork.split c.in-Fork.high c.in-Fork.is c.self.invariant.0 in
    let done = takes-some g.K.Ord.cmp _ c.args.key.now _ _ _ c.in-Some-2.is c.in_ok-len-in-Fork-2.ensures.takes in
    omega (arith, done.0, ap length done.1, length-remove_entry-le (is_at (g.K.Ord.cmp c.args.key.now)) (arc_value c.in-Fork.high).0)

pub tree::Tree::take-invariant_of-self-then-is_below : goal.tree::Tree::take-invariant_of-self-then-is_below
tree::Tree::take-invariant_of-self-then-is_below g t c =
    let len : c.len.result ≡ length (arc_value c.in-Fork.low).0 = rw c.deref.ensures at c.len.ensures in
    let size = size_in c.self.inside.size c.self.inside.body c.in-Fork.low c.in-Fork.split c.in-Fork.high c.in-Fork.is c.self.invariant.0 in
    let f = fork_in c.self.inside.height c.self.inside.body c.in-Fork.low c.in-Fork.split c.in-Fork.high c.in-Fork.is c.self.invariant.1 in
    let done = takes-some g.K.Ord.cmp _ c.args.key.now _ _ _ c.in-Some.is c.in_ok-len-in-Fork.ensures.takes in (
      omega (arith, done.0, length-append (arc_value c.take_below.new.tree).0 (arc_value c.in-Fork.high).0),
      fork_with_low _ _ (arc_value c.take_below.new.tree) _ _ f c.take_below.ensures.height (c.take_below.ensures.filled f.low_filled),
    )

pub tree::Tree::take-invariant_of-self-else-is_below : goal.tree::Tree::take-invariant_of-self-else-is_below
tree::Tree::take-invariant_of-self-else-is_below g t c =
    let len : c.len-else-is_below.result ≡ length (arc_value c.in-Fork.high).0 = rw c.deref-else-is_below.ensures at c.len-else-is_below.ensures in
    let size = size_in c.self.inside.size c.self.inside.body c.in-Fork.low c.in-Fork.split c.in-Fork.high c.in-Fork.is c.self.invariant.0 in
    let f = fork_in c.self.inside.height c.self.inside.body c.in-Fork.low c.in-Fork.split c.in-Fork.high c.in-Fork.is c.self.invariant.1 in
    let done = takes-some g.K.Ord.cmp _ c.args.key.now _ _ _ c.in-Some-2.is c.in_ok-len-in-Fork-2.ensures.takes in (
      omega (arith, done.0, length-append (arc_value c.in-Fork.low).0 (arc_value c.take_below-else-is_below.new.tree).0),
      fork_with_high _ _ _ c.unwrap_or.result _ (arc_value c.take_below-else-is_below.new.tree) f c.take_below-else-is_below.ensures.height (c.take_below-else-is_below.ensures.filled f.high_filled) (split-first c.in-Fork.split _ _ c.in-Some-2.first f.splits done.2 ∙ ap Some (sym c.unwrap_or.ensures)),
    )

pub tree::Tree::take-returns-in-Some-clause-filled : goal.tree::Tree::take-returns-in-Some-clause-filled
tree::Tree::take-returns-in-Some-clause-filled g t c =
    let f = fork_in c.self.inside.height c.self.inside.body c.in-Fork.low c.in-Fork.split c.in-Fork.high c.in-Fork.is c.self.invariant.1 in
    filled_fork _ _ _ _ (fork_with_low _ _ (arc_value c.take_below.new.tree) _ _ f c.take_below.ensures.height (c.take_below.ensures.filled f.low_filled))

pub tree::Tree::take-returns-in-Some-2-clause-filled : goal.tree::Tree::take-returns-in-Some-2-clause-filled
tree::Tree::take-returns-in-Some-2-clause-filled g t c =
    let f = fork_in c.self.inside.height c.self.inside.body c.in-Fork.low c.in-Fork.split c.in-Fork.high c.in-Fork.is c.self.invariant.1 in
    let done = takes-some g.K.Ord.cmp _ c.args.key.now _ _ _ c.in-Some-2.is c.in_ok-len-in-Fork-2.ensures.takes in
    filled_fork _ _ _ _ (fork_with_high _ _ _ c.unwrap_or.result _ (arc_value c.take_below-else-is_below.new.tree) f c.take_below-else-is_below.ensures.height (c.take_below-else-is_below.ensures.filled f.high_filled) (split-first c.in-Fork.split _ _ c.in-Some-2.first f.splits done.2 ∙ ap Some (sym c.unwrap_or.ensures)))

pub tree::Tree::take-returns-in-Some-clause-takes : goal.tree::Tree::take-returns-in-Some-clause-takes
tree::Tree::take-returns-in-Some-clause-takes g t c =
    let len : c.len.result ≡ length (arc_value c.in-Fork.low).0 = rw c.deref.ensures at c.len.ensures in
    let size = size_in c.self.inside.size c.self.inside.body c.in-Fork.low c.in-Fork.split c.in-Fork.high c.in-Fork.is c.self.invariant.0 in
    let s = split_of c.self.inside.height c.self.inside.body c.args.self.now c.in-Fork.low c.in-Fork.split c.in-Fork.high c.in-Fork.is c.self.invariant.1 c.self.view_is in
    let f = fork_in c.self.inside.height c.self.inside.body c.in-Fork.low c.in-Fork.split c.in-Fork.high c.in-Fork.is c.self.invariant.1 in
    let done = takes-some g.K.Ord.cmp _ c.args.key.now _ _ _ c.in-Some.is c.in_ok-len-in-Fork.ensures.takes in
    let filled = c.take_below.ensures.filled f.low_filled in (
      omega (arith, done.0, length-append (arc_value c.take_below.new.tree).0 (arc_value c.in-Fork.high).0),
      ap (λ l. l ++ (arc_value c.in-Fork.high).0) done.1 ∙ sym (remove_entry-low g.K.Ord.cmp g.met.K.Ord.total c.args.key.now _ _ _ _ s c.requires (sym c.if-is_below.ensures)),
      first-low (arc_value c.in-Fork.low).1 (arc_value c.in-Fork.low).0 (arc_value c.take_below.new.tree).0 (arc_value c.in-Fork.high).0 c.args.self.now.0 c.in-Some.first s.is f.low_filled (rw (sym c.take_below.ensures.height) filled) done.2,
    )

pub tree::Tree::take-returns-in-Some-2-clause-takes : goal.tree::Tree::take-returns-in-Some-2-clause-takes
tree::Tree::take-returns-in-Some-2-clause-takes g t c =
    let len : c.len-else-is_below.result ≡ length (arc_value c.in-Fork.high).0 = rw c.deref-else-is_below.ensures at c.len-else-is_below.ensures in
    let size = size_in c.self.inside.size c.self.inside.body c.in-Fork.low c.in-Fork.split c.in-Fork.high c.in-Fork.is c.self.invariant.0 in
    let s = split_of c.self.inside.height c.self.inside.body c.args.self.now c.in-Fork.low c.in-Fork.split c.in-Fork.high c.in-Fork.is c.self.invariant.1 c.self.view_is in
    let f = fork_in c.self.inside.height c.self.inside.body c.in-Fork.low c.in-Fork.split c.in-Fork.high c.in-Fork.is c.self.invariant.1 in
    let done = takes-some g.K.Ord.cmp _ c.args.key.now _ _ _ c.in-Some-2.is c.in_ok-len-in-Fork-2.ensures.takes in (
      omega (arith, done.0, length-append (arc_value c.in-Fork.low).0 (arc_value c.take_below-else-is_below.new.tree).0),
      ap (λ l. (arc_value c.in-Fork.low).0 ++ l) done.1 ∙ sym (remove_entry-high g.K.Ord.cmp g.met.K.Ord.total c.args.key.now _ _ _ _ s c.requires (sym c.if-is_below.ensures)),
      first-high (arc_value c.in-Fork.low).1 (arc_value c.in-Fork.low).0 (arc_value c.in-Fork.high).0 (arc_value c.take_below-else-is_below.new.tree).0 c.args.self.now.0 s.is f.low_filled,
    )

pub tree::Tree::take-returns-then-is_sparse-clause-filled : goal.tree::Tree::take-returns-then-is_sparse-clause-filled
tree::Tree::take-returns-then-is_sparse-clause-filled g t c = filled_outside c.self.inside.height c.self.inside.body c.args.self.now c.self.invariant.1 c.self.view_is
