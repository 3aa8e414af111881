use Rattle.std.proofs.Common.{sym, ap, add-one, arith, length, ◌+◌, ◌-◌, ◌/◌, ◌≤◌, ◌<◌}
use Rattle.std.specs.Ordering.{is_lt}
use Rattle.std.specs.declared.cmp.Ordering.TheVariants.{Less, Equal, Greater}
use Rattle.dg_pmap.proofs.Places.{answers_at, answers_past, above_before, above_more}
use Rattle.dg_pmap.proofs.entries.find.Goals as goal

pub loop-low-init : goal.loop-low-init
loop-low-init g c = record {
  ordered = omega arith;
  inside = omega arith;
  above = tt;
  below = answers_past g.K.Ord.cmp c.args.key.now c.args.entries.now _ Less (omega arith);
}

pub loop-low-preserved-in-Less : goal.loop-low-preserved-in-Less
loop-low-preserved-in-Less g c = record {
  ordered = omega arith;
  inside = omega arith;
  above = c.loop-low.invariant.above;
  below = answers_at g.K.Ord.cmp c.args.key.now c.args.entries.now _ c.index-entries-middle.result Less (omega arith) (sym c.in-Less.ensures);
}

pub returns-in-Equal-clause-found : goal.returns-in-Equal-clause-found
returns-in-Equal-clause-found g c = record {
  inside = omega arith;
  above = above_before g.K.Ord.cmp c.args.key.now g.met.K.Ord.total c.args.entries.now _ c.index-entries-middle.result c.requires (omega arith) (ap is_lt (sym c.in-Equal.ensures));
  equal = answers_at g.K.Ord.cmp c.args.key.now c.args.entries.now _ c.index-entries-middle.result Equal (omega arith) (sym c.in-Equal.ensures);
}

pub loop-low-preserved : goal.loop-low-preserved
loop-low-preserved g c =
    let m = c.loop-low.low + (c.loop-low.high - c.loop-low.low) / 2 in
    let inside : m < length c.args.entries.now = omega arith in
    let before = above_before g.K.Ord.cmp c.args.key.now g.met.K.Ord.total c.args.entries.now m c.index-entries-middle.result c.requires inside (ap is_lt (sym c.in-Greater.ensures)) in
    record {
      ordered = omega arith;
      inside = omega arith;
      above = rw add-one (above_more g.K.Ord.cmp c.args.key.now c.args.entries.now m c.index-entries-middle.result inside before (sym c.in-Greater.ensures));
      below = c.loop-low.invariant.below;
    }
