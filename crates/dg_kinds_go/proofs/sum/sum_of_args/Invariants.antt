use Rattle.std.proofs.Common.{◌≡◌, drop, ◌+ℤ◌}
use Rattle.dg_base.specs.First.{sum_of_args}
use Rattle.dg_kinds_go.proofs.sum.sum_of_args.Given as goal

abbrev pub invariant-loop-arg : goal.invariant-loop-arg
invariant-loop-arg l = l.sum +ℤ sum_of_args (drop l.arg-index l.args) ≡ sum_of_args l.args
