use Rattle.std.proofs.Common.{◌≡◌, ◌++◌, drop}
use Rattle.dg_base.specs.Rule.{named_by_args}
use Rattle.dg_answer.proofs.named.add_named_by_args.Given as goal

abbrev pub invariant-loop-arg : goal.invariant-loop-arg
invariant-loop-arg l = l.ends.items ++ named_by_args (drop l.arg-index l.args) ≡ l.initial.ends.items ++ named_by_args l.args
