use Rattle.dg_laws.proofs.Endless.{leads_round-cycle}
use Rattle.dg_laws.proofs.laws.cycles_are_cycles.Goals as goal

pub returns : goal.returns
returns g c graph o round =
    let t = g.S.Schema.tables in
    (leads_round-cycle t graph o o round round, λ e leads. leads_round-cycle t graph e o leads round)
