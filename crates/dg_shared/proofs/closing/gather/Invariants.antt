use Rattle.std.proofs.Common.{◌≡◌}
use Rattle.dg_room.specs.Made.{sum_of}
use Rattle.dg_shared.proofs.closing.gather.Given as goal

abbrev pub invariant-loop-back : goal.invariant-loop-back
invariant-loop-back g l = record {
  follows : (sum_of l.passes.items).follows ≡ l.fn.pass.made.follows;
  evictions : (sum_of l.passes.items).evictions ≡ l.fn.pass.made.evictions;
}
