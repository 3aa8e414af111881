use Rattle.std.proofs.Common.{refl}
use Rattle.dg_world.specs.Steps.{given_of}
use Rattle.dg_world.proofs.Known.{snapshot-known}
use Rattle.dg_world.proofs.acts.gives.Goals as goal

pub returns-clause-listed : goal.returns-clause-listed
returns-clause-listed g c there =
    snapshot-known g.N.Mark.Mark.seen g.N.Mark.Mark.tables c.args.desk.now c.args.ticket.now (given_of g.N.Mark.Mark.seen c.args.desk.now c.args.ticket.now) c.is_desk.ensures there c.agree.ensures refl
