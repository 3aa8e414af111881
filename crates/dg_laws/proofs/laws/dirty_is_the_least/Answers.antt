use Rattle.dg_laws.proofs.Dirties.{dirty-holds, dirty-closed, dirty-least, dirty-rise}
use Rattle.dg_laws.proofs.laws.dirty_is_the_least.Goals as goal

pub returns : goal.returns
returns g c graph es =
    let t = g.S.Schema.tables in
    record {
      holds = dirty-holds t graph es;
      closed = dirty-closed t graph es;
      least = dirty-least t graph es;
      in_order = dirty-rise t graph es;
    }
