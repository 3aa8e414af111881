use Rattle.std.proofs.Common.{sym, ap, ◌∙◌}
use Rattle.dg_bind.specs.Question.{node_in}
use Rattle.dg_bind.proofs.Overrides.{in_no_root, in_no_original, in_both}
use Rattle.dg_bind.proofs.question.+node_in.Goals as goal

pub returns-in_err-root-in-In : goal.returns-in_err-root-in-In
returns-in_err-root-in-In g t c =
    c.from_residual.ensures
    ∙ sym (in_no_root c.args.graph.now c.args.reference.now c.in-In.root c.in-In.original c.in-In.is (ap (node_in c.args.graph.now) (sym c.get.ensures) ∙ sym c.node_in.ensures ∙ c.in_err-root-in-In.was))

pub returns-in_err-original-in-In : goal.returns-in_err-original-in-In
returns-in_err-original-in-In g t c =
    c.from_residual-in_err-original-in-In.ensures
    ∙ sym (in_no_original c.args.graph.now c.args.reference.now c.in-In.root c.in-In.original c.in-In.is (ap (node_in c.args.graph.now) (sym c.get-in-In.ensures) ∙ sym c.node_in-in-In.ensures ∙ c.in_err-original-in-In.was))

pub returns-in_ok-original-in-In : goal.returns-in_ok-original-in-In
returns-in_ok-original-in-In g t c =
    c.override_in.ensures
    ∙ sym (
    in_both c.args.graph.now c.args.reference.now c.in-In.root c.in-In.original c.in_ok-root-in-In.root c.in_ok-original-in-In.original c.in-In.is
    (ap (node_in c.args.graph.now) (sym c.get.ensures) ∙ sym c.node_in.ensures ∙ c.in_ok-root-in-In.was)
    (ap (node_in c.args.graph.now) (sym c.get-in-In.ensures) ∙ sym c.node_in-in-In.ensures ∙ c.in_ok-original-in-In.was))
