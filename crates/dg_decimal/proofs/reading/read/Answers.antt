use Rattle.std.proofs.Common.{◌∙◌, ap}
use Rattle.dg_decimal.specs.Reading.{reading}
use Rattle.dg_decimal.proofs.Grammar.{reading-spelled}
use Rattle.dg_decimal.proofs.reading.read.Goals as goal

pub returns-clause-number : goal.returns-clause-number
returns-clause-number c = λ n s.
    c.read_bytes.ensures ∙ (ap reading c.as_bytes.ensures.value ∙ reading-spelled c.args.text.now n s)
