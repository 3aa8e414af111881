use Rattle.dg_desk.proofs.Places.{filed-pass}
use Rattle.dg_desk.proofs.desk.Desk.set_pass.Goals as goal

pub invariant_of-self : goal.invariant_of-self
invariant_of-self g c = filed-pass _ _ c.args.pass c.self.invariant c.requires
