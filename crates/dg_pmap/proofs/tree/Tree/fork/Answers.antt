use Rattle.std.proofs.Common.{◌≡◌, ◌+◌, ◌≤◌, ◌++◌, length, max, arith, length-append}
use Rattle.std.specs.Arc.{arc_value}
use Rattle.dg_pmap.proofs.tree.Tree.fork.Goals as goal

pub invariant_of-new : goal.invariant_of-new
invariant_of-new g c =
    let low_is : c.height.result ≡ (arc_value c.args.low).1 = rw c.deref-3.ensures at c.height.ensures.height in
    let high_is : c.height-2.result ≡ (arc_value c.args.high).1 = rw c.deref-4.ensures at c.height-2.ensures.height in
    let low_len : c.len.result ≡ length (arc_value c.args.low).0 = rw c.deref.ensures at c.len.ensures in
    let high_len : c.len-2.result ≡ length (arc_value c.args.high).0 = rw c.deref-2.ensures at c.len-2.ensures in (
      omega (arith, c.in-Some.ensures, length-append (arc_value c.args.low).0 (arc_value c.args.high).0),
      record {
        tall = omega (arith, c.max-height.ensures);
        low_near = c.requires.low_near;
        high_near = c.requires.high_near;
        low_filled = rw c.deref-3.ensures at c.height.ensures.filled;
        high_filled = rw c.deref-4.ensures at c.height-2.ensures.filled;
        splits = rw c.deref-5.ensures at c.first_key-split.ensures;
      },
    )
