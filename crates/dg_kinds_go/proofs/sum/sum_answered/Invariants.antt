use Rattle.std.proofs.Common.{◌≡◌, drop, ◌+ℤ◌}
use Rattle.dg_base.specs.First.{sum_answered}
use Rattle.dg_kinds_go.proofs.sum.sum_answered.Given as goal

abbrev pub invariant-loop-held : goal.invariant-loop-held
invariant-loop-held l = l.sum +ℤ sum_answered (drop l.held-index l.answers) ≡ sum_answered l.answers
