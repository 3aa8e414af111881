use Rattle.std.proofs.Common.{◌∙◌, ap, sym, Ok}
use Rattle.dg_ptext.specs.Reading.{closed, innermost}
use Rattle.dg_ptext.specs.declared.state.Phase.TheVariants as phase
use Rattle.dg_ptext.proofs.States.{innermost-append}
use Rattle.dg_ptext.proofs.state.close_message.Goals as goal

pub returns : goal.returns
returns c =
    ap (λ found. closed found c.args.fields c.args.here)
    (ap innermost c.in-Some.ensures ∙ innermost-append c.pop.new.self c.in-Some.inner)
    ∙ ap (λ fields. Ok (record { around = c.pop.new.self; fields = fields; phase = phase.Behind })) (sym c.in_ok-push.ensures)
