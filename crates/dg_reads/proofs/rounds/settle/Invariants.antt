use Rattle.std.proofs.Common.{◌≡◌}
use Rattle.dg_base.specs.Order.{ordered}
use Rattle.dg_reads.specs.DirtyRounds.{settled}
use Rattle.dg_reads.proofs.rounds.settle.Given as goal

abbrev pub invariant-loop-round : goal.invariant-loop-round
invariant-loop-round l = record {
  so_far : l.dirty ≡ settled l._round l.all l.initial.dirty;
  in_order : l.dirty ≡ ordered l.dirty;
}
