use Rattle.std.proofs.Common.{rules}
use Rattle.dg_load.proofs.NameCopies.{copied-next}
use Rattle.dg_load.proofs.whole.copy_next.Goals as goal

pub returns : goal.returns
returns c = λ once before.
    copied-next c.args.names.now c.args.copy.now c.intern.new.self c.args.place c.in-Some.label c.in-Some-text.text.now once before (search rules) (search rules) c.in_ok-intern.ensures.names
