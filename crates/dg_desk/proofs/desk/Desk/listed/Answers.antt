use Rattle.std.proofs.Common.{ap, ◌∙◌, subst, option_copied}
use Rattle.dg_desk.specs.Desks.{Desked, state_of}
use Rattle.dg_desk.specs.Places.{IsFound, pins_at}
use Rattle.dg_desk.proofs.desk.Desk.listed.Goals as goal

pub returns : goal.returns
returns g c =
    let body = c.self.inside.body in
    let is =
    ap (λ hs. pins_at body.opened hs c.deref-2.result.now) c.deref.ensures.value ∙ ap (pins_at body.opened body.history.items) c.deref-2.ensures.value
    ∙ c.self.invariant.pins ∙ ap (λ (z : Desked _ _). (state_of g.M.Mark.seen z).list) c.self.view_is
    in
    subst (λ (ps : _). IsFound c.args.index ps (option_copied c.found_in.result)) is c.found_in.ensures
