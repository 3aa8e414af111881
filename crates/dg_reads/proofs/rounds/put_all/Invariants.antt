use Rattle.std.proofs.Common.{◌≡◌, ◌++◌, false, take}
use Rattle.dg_base.specs.Order.{ordered}
use Rattle.dg_reads.proofs.rounds.put_all.Given as goal

abbrev pub invariant-loop-end : goal.invariant-loop-end
invariant-loop-end l = record {
  so_far : l.dirty ≡ ordered (l.initial.dirty ++ take l.end-index l.ends);
  more : l.more ≡ false → l.dirty ≡ l.initial.dirty;
}
