use Rattle.std.proofs.Common.{◌≡◌, drop, []}
use Rattle.dg_base.specs.Value.{faults_of_args}
use Rattle.dg_answer.specs.Kept.{keep_all}
use Rattle.dg_answer.proofs.faults.faults_of_args.Given as goal

abbrev pub invariant-loop-arg : goal.invariant-loop-arg
invariant-loop-arg l = keep_all l.kept.items (faults_of_args (drop l.arg-index l.args)) ≡ keep_all [] (faults_of_args l.args)
