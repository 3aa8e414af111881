use Rattle.std.proofs.Common.{◌∙◌, sym}
use Rattle.std.proofs.lemmas.List.{at_drop_all}
use Rattle.dg_base.specs.Value.{faults_of_args}
use Rattle.dg_answer.specs.Kept.{keep_all}
use Rattle.dg_answer.proofs.KeptFaults.{keep_arg, keep_kept}
use Rattle.dg_answer.proofs.faults.faults_of_args.Goals as goal

pub loop-arg-preserved : goal.loop-arg-preserved
loop-arg-preserved c =
    keep_arg c.loop-arg.kept.items c.keep_of_arg.new.kept.items c.args.args.now c.loop-arg.arg-index c.arg-item.result c.loop-arg-test.true c.arg-item.is c.in_ok-keep_of_arg.ensures
    ∙ c.loop-arg.invariant

pub returns : goal.returns
returns c =
    sym (at_drop_all (λ as_. keep_all c.loop-arg.kept.items (faults_of_args as_)) c.args.args.now c.loop-arg.arg-index c.loop-arg-test.false)
    ∙ c.loop-arg.invariant
    ∙ keep_kept (faults_of_args c.args.args.now)
