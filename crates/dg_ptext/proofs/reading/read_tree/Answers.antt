use Rattle.std.proofs.Common.{Ok}
use Rattle.dg_ptext.specs.Reading.{reading}
use Rattle.dg_ptext.proofs.Refusals.{gives_same}
use Rattle.dg_ptext.proofs.SpelledIsRead.{reading-spelled}
use Rattle.dg_ptext.proofs.ReadIsSpelled.{spelled-given}
use Rattle.dg_ptext.proofs.reading.read_tree.Goals as goal

pub returns-clause-found : goal.returns-clause-found
returns-clause-found c = spelled-given c.args.bytes.now c.read_all.result c.read_all.ensures

pub returns-clause-spelled : goal.returns-clause-spelled
returns-clause-spelled c = λ tree s.
    gives_same c.read_all.result (reading c.args.bytes.now) (Ok tree) (reading-spelled c.args.bytes.now tree s) c.read_all.ensures
