use Rattle.std.proofs.Common.{◌∙◌, ap}
use Rattle.dg_ptext.specs.Reading.{end, ended_in, innermost}
use Rattle.dg_ptext.proofs.States.{innermost-append}
use Rattle.dg_ptext.proofs.state.State.end.Goals as goal

pub returns-in-Some : goal.returns-in-Some
unfolding end
returns-in-Some c =
    ap (λ found. ended_in found c.args.self.fields c.args.self.phase)
    (ap innermost c.in-Some.ensures ∙ innermost-append c.pop.new.self c.in-Some.inner)
